-- The parts have one cell for each character of a kind, so the tests of sizes are tests of the rows. The one member of the set of players is
-- the player, and what walks over the floor reach from its cell is the room. `PassesTests` of `Verdict.antt` says this of the sets. Then
-- the level of these parts is legal unless its room is open (`legal_of`). The room is kept in the set of players, once that is cleared.
use Rattle.std.proofs.Common.{◌≡◌, ℕ, List, length, take, sym, ◌∙◌, ap, inr, arith}
use Rattle.std.proofs.lemmas.List.{length-take}
use Rattle.std.specs.FinSet as set
use Rattle.cellset.specs.CellSet.{Cells}
use Rattle.cellset.proofs.Members.{has_empty, same_members}
use Rattle.cellset.proofs.Truth.{either}
use Rattle.reach.proofs.Sets.{stored_is}
use Rattle.cellset.specs.Shape.{Extent}
use Rattle.board.proofs.DrawnParts.{all_within_width}
use Rattle.board.proofs.Verdict.{PassesTests, formed_of, legal_of}
use Rattle.board.proofs.reading.fill.Given as given
use Rattle.board.proofs.reading.fill.Goals as goal

-- An empty set to which cells are added has these alone.
room_of : (s t u : Cells) → s ≡ set.empty → u ≡ set.union s t → t ≡ u
room_of s t u empty union = grind (arith, stored_is, same_members)

-- The rows of the level are those that the text begins with.
same_rows : (lines rows : List (List ℕ)) (n height : ℕ) → take n lines ≡ rows → n ≡ length (take n lines) → height ≡ length rows → take height lines ≡ rows
same_rows lines rows n height view long is = ap (λ k. take k lines) (is ∙ ap length (sym view) ∙ sym long) ∙ view

pub draw-requires-clause-high : goal.draw-requires-clause-high
draw-requires-clause-high g c = grind (arith, length-take)

pub draw-requires-clause-wide : goal.draw-requires-clause-wide
draw-requires-clause-wide g c =
    let is = ap (λ (e : Extent). e.height) c.requires.shape in
    rw (same_rows _ _ _ _ c.text.view_is c.text.invariant.2 is) (rw (sym (ap (λ (e : Extent). e.width) c.requires.shape)) at (all_within_width c.args.text.now))

passed : (g : given.Over) (c : goal.After-store g) → let members = g.S.CellSet.members in let parts = c.draw.new.parts in
    PassesTests c.args.text.now parts.shape (members parts.walls) (members parts.goals) (members parts.boxes) (members parts.room)
    (members c.store.new.into) c.in-Some.player
passed g c =
    let is = ap (λ (e : Extent). e.height) c.requires.shape in
    let drawn = rw (same_rows _ _ _ _ c.text.view_is c.text.invariant.2 is) at c.draw.ensures.drawn in
    let rows = c.draw.ensures.rows in
    let same = room_of _ _ _ c.clear.ensures.members c.store.ensures.members in
    record {
      sides = rw c.draw.ensures.shape c.requires.sides;
      shape_is = c.draw.ensures.shape ∙ c.requires.shape;
      walls_drawn = drawn.wall;
      goals_drawn = drawn.goal;
      boxes_drawn = drawn.box;
      players_drawn = drawn.player;
      one = c.in-Some.ensures.0;
      is_player = c.in-Some.ensures.1;
      some = λ none. c.if-boxes-eq0.false (c.len-boxes.ensures ∙ none);
      enough = omega arith;
      walked = record {
        floor = c.draw.new.parts.floor.members;
        start = c.insert.new.self.members;
        floor_is = rows.floor;
        start_is = λ q. let added = rw rows.region at (c.insert.ensures.members q) in
            ((λ h. either (added.0 h) (λ none. has_empty q none) (λ here. here)), (λ here. added.1 (inr here)));
        reached = rw same at c.grow.ensures.exact;
      };
    }

pub returns-clause-legal : goal.returns-clause-legal
returns-clause-legal g c = legal_of _ _ _ _ _ _ _ _ (passed g c)

pub returns-clause-formed : goal.returns-clause-formed
returns-clause-formed g c = formed_of _ _ _ _ _ _ _ _ (passed g c)

pub returns-clause-rows : goal.returns-clause-rows
returns-clause-rows g c =
    let was = c.draw.ensures.rows in
    record {
      wall = was.wall;
      goal = was.goal;
      box = was.box;
      player = c.store.ensures.extent ∙ c.clear.ensures.extent ∙ was.player;
      floor_extent = was.floor_extent;
      floor = was.floor;
      region_extent = c.grow.ensures.extent ∙ c.insert.ensures.extent ∙ was.region_extent;
      region = room_of _ _ _ c.clear.ensures.members c.store.ensures.members;
    }
