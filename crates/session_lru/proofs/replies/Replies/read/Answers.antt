use Rattle.std.proofs.Common.{◌≡◌, ◌∷◌, ◌++◌, ◌-◌, ◌<◌, [], sym, subst, ℕ, ◌+◌, suc, arith}
use Rattle.session_lru.proofs.Exits.{handed_on}
use Rattle.session_lru.proofs.Fronts.{ReadSoFar, one_read, all_read, none_more}
use Rattle.session_lru.proofs.Sublists.{last_of, inserted_last}
use Rattle.session_lru.proofs.replies.Replies.read.Goals as goal

pub returns-in_err-spelt-clause-not_table : goal.returns-in_err-spelt-clause-not_table
returns-in_err-spelt-clause-not_table c = λ place e.
    none_more c.args.bytes.now c.args.at c.args.responded c.args.count c.loop-read.replies c.loop-read.before c.loop-read.next c.loop-read.read place c.loop-read.invariant c.loop-read-test.true
    (c.in_err-spelt.ensures.not_table (c.args.count - suc c.loop-read.read) place (handed_on c.from_residual.result c.in_err-spelt.field-0.0 place c.from_residual.ensures.1 e))

pub loop-read-preserved : goal.loop-read-preserved
loop-read-preserved c =
    let l = c.loop-read in
    let x = c.in_ok-spelt.spelt in
    let so_far = l.invariant in
    let good = c.in_ok-spelt.ensures.good in
    let above : last_of c.args.responded l.replies < x.series = subst (λ (k : ℕ). k < x.series) (sym so_far.last) good.0 in
    let next : suc l.read ≡ l.read + 1 = omega arith in
    rw (c.in_ok-keep.ensures.ok, inserted_last c.args.responded x.series x.reply l.replies so_far.good above)
    (subst (λ (k : ℕ). ReadSoFar c.args.bytes.now c.args.at c.args.responded c.args.count (l.replies ++ (x.series, x.reply) ∷ []) x.series x.next k) next
    (one_read c.args.bytes.now c.args.at c.args.responded c.args.count l.replies l.before l.next l.read (x.series, x.reply) x.next so_far c.loop-read-test.true
    (c.in_ok-spelt.ensures.reads (c.args.count - suc l.read)) c.in_ok-spelt.ensures.within good.0 good.1 good.2))

pub returns-clause-reads : goal.returns-clause-reads
returns-clause-reads c = all_read c.args.bytes.now c.args.at c.args.responded c.args.count c.loop-read.replies c.loop-read.before c.loop-read.next c.loop-read.read c.loop-read.invariant c.loop-read-test.false
