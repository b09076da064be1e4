use Rattle.std.proofs.Common.{◌≡◌, ◌∙◌, inr}
use Rattle.std.specs.Prelude.{◌⊎◌, ◌↔◌}
use Rattle.std.specs.FinSet as set
use Rattle.cellset.specs.CellSet.{Cells, Has}
use Rattle.cellset.specs.declared.cell.Cell.{Cell}
use Rattle.cellset.proofs.Members.{has_empty, same_members}
use Rattle.cellset.proofs.Truth.{either}
use Rattle.reach.specs.Reached.{Reached, PullsTo}
use Rattle.maker.proofs.Living.{dead_is}
use Rattle.maker.proofs.dead.dead_rows.Goals as goal

-- The union of an empty set and a second set is the second set.
added : (none more all : Cells) → none ≡ set.empty → ((q : Cell) → Has all q ↔ (Has none q ⊎ Has more q)) → all ≡ more
added none more all empty is = same_members all more
    (λ q h. either ((is q).0 h) (λ old. has_empty q (rw empty at old)) (λ new. new))
    (λ q h. (is q).1 (inr h))

pub returns-clause-exact : goal.returns-clause-exact
returns-clause-exact g c =
    let level = c.args.board.now in
    let live = c.grow.new.self.members in
    let seeds = added _ _ _ c.in_ok-live.ensures.1 c.insert_all.ensures.members ∙ c.goals.ensures.members in
    let exact : (q : Cell) → Has live q ↔ Reached (PullsTo (Has level.room)) (Has level.goals) q = λ q.
    rw (seeds, c.room_rows.ensures.members) at (c.grow.ensures.exact q) in
    let within = c.add_boxes.ensures.members in
    λ q.
    let left = c.subtract.ensures.members q in
    let dead = dead_is level c.shape-shape.ensures.formed live exact q in (
      (λ has. let (here, gone) = left.0 has in dead.0 ((within q).0 here, gone)),
      (λ d. let (here, gone) = dead.1 d in left.1 ((within q).1 here, gone)),
    )
