-- Each return answers one case of the definition. Past the edge of the grid there is no floor and no room. A box is held ahead by a wall,
-- a box of the set or a dead square, and behind by a cell outside the room or a box of the set. Where the result is true, `loose` has
-- nothing to show. The last return has both tests of the cell behind, and there the prover needs no help.
use Rattle.std.proofs.Common.{refl, sym, inl, inr}
use Rattle.std.proofs.lemmas.Bool.{true≢false}
use Rattle.cellset.specs.Cell.{neighbor, opposite}
use Rattle.cellset.proofs.Members.{not_both, has_or_lacks}
use Rattle.maker.specs.Frozen.{IsHeldAhead}
use Rattle.maker.proofs.freezing.is_held_toward.Goals.{then-contains-via-then-contains, then-contains-via-else-contains+then-contains-2}
use Rattle.maker.proofs.freezing.is_held_toward.Goals.{then-contains-via-else-contains+else-contains-2+then-has}
use Rattle.maker.proofs.freezing.is_held_toward.Goals as goal

pub step-requires : goal.step-requires
step-requires g c = rw c.shape-shape.ensures.value c.requires.on

pub returns-in_default-clause-held : goal.returns-in_default-clause-held
returns-in_default-clause-held g c = λ _. inr (inl (λ floor. c.in_default.ensures (rw c.shape-shape.ensures.value floor.0)))

pub returns-in_default-clause-loose : goal.returns-in_default-clause-loose
returns-in_default-clause-loose g c = λ e. absurd (true≢false e)

pub returns-then-contains-clause-held : goal.returns-then-contains-clause-held
returns-then-contains-clause-held g c = λ _.
    let level = c.args.board.now in
    let dead = c.args.dead.now.members in
    let frozen = g.S.CellSet.members c.args.frozen.now in
    let ahead : IsHeldAhead level dead frozen (neighbor c.args.cell c.args.dir) = elim c.then-contains.branch [
      | then-contains-via-then-contains w ↦
          let wall = rw c.walls.ensures.members at (sym w.if-contains.ensures) in
          inl (λ floor. not_both level.walls _ wall (rw c.in-Some.ensures.1 floor.1))
      | then-contains-via-else-contains+then-contains-2 w ↦ inr (inl (rw c.in-Some.ensures.1 at (sym w.if-contains-2.ensures)))
      | then-contains-via-else-contains+else-contains-2+then-has w ↦ inr (inr (rw c.in-Some.ensures.1 at (w.if-has.ensures.0 refl)))
    ] in
    inr ahead

pub returns-then-contains-clause-loose : goal.returns-then-contains-clause-loose
returns-then-contains-clause-loose g c = λ e. absurd (true≢false e)

pub returns-in_default-step-clause-held : goal.returns-in_default-step-clause-held
returns-in_default-step-clause-held g c = λ _.
    let level = c.args.board.now in
    inl (inl (has_or_lacks level.room (neighbor c.args.cell (opposite c.args.dir))
    (λ has. absurd (c.in_default-step.ensures (rw (c.shape-shape.ensures.value, c.opposite.ensures) (c.shape-shape.ensures.formed.room _ has).0)))
    (λ lacks. lacks)))

pub returns-in_default-step-clause-loose : goal.returns-in_default-step-clause-loose
returns-in_default-step-clause-loose g c = λ e. absurd (true≢false e)
