-- The invariant is `IsThawing` of `Thawing.antt`: every frozen set lies within the set, and the worklist has the boxes of the set that may
-- be loose. Each turn takes one box from it. Either the box leaves the set and at most four others are queued, or it stays and none is. So
-- four times the size of the set, plus the length of the list, falls: this bounds the capacity and the number of turns. With an empty worklist
-- every box is held, and the set is the largest frozen one.
use Rattle.std.proofs.Common.{◌≡◌, ℕ, ◌+◌, ◌*◌, length, List, [], ◌∷◌, ◌++◌, sym, ◌∙◌, subst, arith}
use Rattle.std.specs.FinSet as set
use Rattle.std.specs.List.{Contains}
use Rattle.std.proofs.Math.ListN.{length-append}
use Rattle.std.proofs.lemmas.List.Elements.{Contains-append_left, Contains-push}
use Rattle.cellset.specs.declared.cell.Cell.{Cell}
use Rattle.cellset.proofs.Truth.{either}
use Rattle.maker.proofs.Thawing.{thawing_start, thawing_more, thawing_end}
use Rattle.maker.proofs.freezing.thaw.Goals as goal

pub loop-cell-init : goal.loop-cell-init
loop-cell-init g c =
    let start =
    thawing_start c.args.board.now c.requires.formed c.args.dead.now.members (g.S.CellSet.members c.args.frozen.now) c.args.work.now.items
    c.requires.boxes c.requires.waiting in
    record {
      extent = c.requires.frozen;
      space = c.requires.space;
      listed = λ q h. (c.requires.formed.boxes q (start.boxes q (c.requires.listed q h))).0;
      thawing = start;
    }

-- The last of a list is one of its elements.
was_last : (rest all : List Cell) (b : Cell) → all ≡ rest ++ b ∷ [] → Contains all b
was_last rest all b e = subst (λ (w : List Cell). Contains w b) (sym e) (Contains-push rest b)

pub review-requires-clause-on : goal.review-requires-clause-on
review-requires-clause-on g c = c.loop-cell.invariant.listed c.in-Some.cell (was_last _ _ c.in-Some.cell c.in-Some.ensures.items)

taken : (n : ℕ) (rest all : List Cell) (b : Cell) → all ≡ rest ++ b ∷ [] → n + length all ≡ n + length rest + 1
taken n rest all b e = grind (arith, length-append)

pub loop-cell-preserved : goal.loop-cell-preserved
loop-cell-preserved g c =
    let l = c.loop-cell in
    let level = c.args.board.now in
    let dead = c.args.dead.now.members in
    let cell = c.in-Some.cell in
    let before = rw c.in-Some.ensures.items at l.invariant.thawing in
    let space = c.loop-cell.invariant.space in
    let weight = 4 * set.len (g.S.CellSet.members c.loop-cell.frozen) in
    let all = taken weight c.pop.new.self.items c.loop-cell.work.items c.in-Some.cell c.in-Some.ensures.items in
    let less = c.review.ensures.reviewed.less in
    record {
      extent = c.review.ensures.extent;
      space = rw (c.review.ensures.capacity, c.pop.ensures.capacity) (omega arith);
      listed = λ q h. either (c.review.ensures.listed q h)
          (λ old.
          let was = rw (← c.in-Some.ensures.items) at (Contains-append_left c.pop.new.self.items (cell ∷ []) q old) in
          l.invariant.listed q was)
          (λ has. (c.requires.formed.boxes q (c.loop-cell.invariant.thawing.boxes q has)).0);
      thawing = thawing_more level c.requires.formed dead cell _ _ _ _ (l.invariant.listed cell (was_last _ _ cell c.in-Some.ensures.items)) before
          c.review.ensures.reviewed;
    }

pub returns-clause-exact : goal.returns-clause-exact
returns-clause-exact g c =
    let l = c.loop-cell in
    let none = sym l.work.ok.0 ∙ c.in_default.ensures.cases.0 in
    thawing_end c.args.board.now c.requires.formed c.args.dead.now.members _ l.work.items none l.invariant.thawing
