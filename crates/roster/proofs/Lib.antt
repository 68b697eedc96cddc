mod Majority
