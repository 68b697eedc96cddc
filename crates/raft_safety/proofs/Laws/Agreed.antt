-- Where the invariant holds, the group has agreed on one decided list and on one leader a term.
use Rattle.std.proofs.Common.{◌≡◌, sym, ap, ◌∙◌}
use Rattle.raft_model.specs.Group.{Group}
use Rattle.raft_safety.specs.History.{Reign, IsLed}
use Rattle.raft_safety.specs.Invariant.{Kept}
use Rattle.raft_safety.specs.Agreed.{AgreesWhereKept}
use Rattle.raft_safety.proofs.Argument.Decided.{same_reign}

-- two reigns of one term have the same leader
pub same_leader : {g : Group} (k : Kept g) (P Q : Reign) → IsLed k.history.reigns P → IsLed k.history.reigns Q → P.term ≡ Q.term → P.leader ≡ Q.leader
same_leader k P Q p q same = ap (λ (R : Reign). R.leader) (same_reign k.holds.common P Q p q same)

-- up to its commit index each replica holds the decided list, and no two hosts lead a term
pub agreed : AgreesWhereKept
agreed g k = record {
  decided = λ v. (k.holds.hosts v).stands.now.commit;
  leaders = λ u v a b same.
      let x = (k.holds.hosts u).stands.leader a in
      let y = (k.holds.hosts v).stands.leader b in
      sym x.leader ∙ same_leader k x.reign y.reign x.led y.led (x.term ∙ same ∙ sym y.term) ∙ y.leader;
}
