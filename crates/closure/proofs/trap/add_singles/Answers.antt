-- The invariant says that the single of each cell is a pattern of the list. A line that is a single adds its cell, and the invariant holds
-- again, by cases on whether a cell was there or is the new one.
use Rattle.std.proofs.Common.{◌≡◌, ◌<◌, ◌≤◌, List, [], ◌∷◌, length, None, refl, ◌∙◌, inl, inr, arith}
use Rattle.std.specs.FinSet as set
use Rattle.std.specs.List.{Contains}
use Rattle.cellset.{specs.declared.cell.Cell.Cell, proofs.Members.has_empty, proofs.Members.inserted, proofs.Truth.either}
use Rattle.certificates.specs.CellLists.{cell_no}
use Rattle.certificates.proofs.CellLists.{in_list, no_cell}
use Rattle.certificates.specs.Pattern.{Pattern}
use Rattle.closure.specs.{Arena.list_in, Arena.pattern_at, Arena.pattern_in, Trap.IsTrapped, Trap.single}
use Rattle.closure.specs.declared.arena.CellPattern.{CellPattern}
use Rattle.closure.proofs.Arenas.{list_long, listed_at}
use Rattle.closure.proofs.Numbered.{each_pattern, one_more}
use Rattle.closure.proofs.trap.add_singles.Goals as goal

one_cell : (cells : List Cell) → 1 ≤ length cells → length cells < 2 → cells ≡ cell_no cells 0 ∷ []
one_cell [] some few = absurd (omega arith)
one_cell (c ∷ []) some few = refl
one_cell (c ∷ d ∷ cells) some few = absurd (omega arith)

-- The pattern of one box with `*` is the single of that box.
is_single : (p : CellPattern) (q : Pattern) → pattern_in p ≡ q → p.seeds ≡ None → 1 ≤ length p.boxes.now → length p.boxes.now < 2
    → q ≡ single (cell_no p.boxes.now 0)
is_single p q is none some few = grind (arith, one_cell)

pub loop-line-init : goal.loop-line-init
loop-line-init c = record { extent = refl; singles = λ q has. has_empty q (rw c.requires.empty at has); all = λ _ j before. absurd (omega arith) }

pub insert-requires : goal.insert-requires
insert-requires c =
    let p = c.pattern-pattern in
    rw c.loop-line.invariant.extent (c.requires.on _ (listed_at c.args.arena.now c.loop-line.line (omega arith)) _
    (inl (rw (← p.ensures.pattern) (in_list p.result.boxes.now 0 no_cell c.in-len1-None.len_at_least))))

pub loop-line-preserved : goal.loop-line-preserved
loop-line-preserved c =
    let patterns = list_in c.args.arena.now in
    let old = c.loop-line.invariant in
    let p = c.pattern-pattern.result in
    let box = c.in-len1-None in
    let is = is_single p _ c.pattern-pattern.ensures.pattern box.is-1 box.len_at_least box.len_below in
    let single_in : Contains patterns (single (cell_no p.boxes.now 0)) = rw (← is) (listed_at c.args.arena.now c.loop-line.line (omega arith)) in
    record {
      extent = c.insert.ensures.extent ∙ old.extent;
      singles = λ q has. either ((c.insert.ensures.members q).0 has) (old.singles q) (λ e. rw e single_in);
      all = λ single. one_more (λ j. IsTrapped c.insert.new.self.members (pattern_at patterns j)) c.loop-line.line
          (λ j before. let trapped = old.all single j before in (trapped.0, trapped.1, (c.insert.ensures.members trapped.0).1 (inl trapped.2)))
          (cell_no p.boxes.now 0, rw is (inserted set.empty (cell_no p.boxes.now 0)), (c.insert.ensures.members _).1 (inr refl));
    }

pub returns-clause-all : goal.returns-clause-all
returns-clause-all c = λ single.
    let patterns = list_in c.args.arena.now in
    let long = list_long c.args.arena.now in
    each_pattern (IsTrapped c.loop-line.cells.members) patterns c.loop-line.line _ (omega arith) (c.loop-line.invariant.all single)
