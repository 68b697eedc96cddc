pub mod Casting
pub mod Granting
pub mod Vote
pub mod Campaigns
pub mod Standing
pub mod Timeout
pub mod Crowning
pub mod VoteReply
