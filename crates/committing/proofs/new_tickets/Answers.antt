-- On a large chip no ticket is replaced; on a small one those of the changed blocks are when the loop ends.
use Rattle.std.proofs.Common.{sym, ◌∙◌, arith, rules}
use Rattle.committing.proofs.Renewed.{tickets_renewed, kept_large}
use Rattle.committing.proofs.new_tickets.Goals as goal

pub returns-then-is_large : goal.returns-then-is_large
returns-then-is_large c =
    kept_large _ _ _ _ (sym c.is_large.ensures ∙ c.if-is_large.true) (search rules) (λ k. omega arith)

pub returns : goal.returns
returns c =
    let t = c.loop-s.invariant in
    tickets_renewed _ _ _ _ _ (sym c.is_large.ensures ∙ c.if-is_large.false) t.0 (omega arith) t.1 t.2
