-- The first push out of a line among those out of its group that are left. A push out of the line is one out of the group, so it is left or
-- its result is covered. A push that is left goes out of the line if its player is in the line's region.
use Rattle.std.proofs.Common.{◌≡◌, Bool, true, false, ℕ, ◌<◌, List, length, refl, sym, subst, inl, inr}
use Rattle.std.{specs.Prelude.◌⊎◌, specs.Prelude.◌↔◌, specs.Prelude.slice_index, specs.Prelude.MatchBool, specs.Prelude.MatchOption, specs.Prelude.Option, specs.Prelude.None, specs.Prelude.Some, specs.List.Contains, proofs.lemmas.Option.none-some, proofs.lemmas.Option.same_Some}
use Rattle.cellset.{specs.CellSet.Cells, specs.CellSet.Has, specs.declared.cell.Cell.Cell, proofs.Truth.either}
use Rattle.reach.specs.{Pushes.PushBefore, declared.pushes.Push.Push}
use Rattle.board.specs.Game.{Level}
use Rattle.certificates.specs.Pattern.{Pattern, CoversPushesOf, InPatternRegion, IsCovered, IsFirstUncovered, PushesOut, after_push}
use Rattle.closure.specs.{Arena.pattern_at, Groups.IsGrouped, Groups.list_of, Groups.position_at, Lookups.IsRest, Run.state_after, declared.groups.Groups.Groups}
use Rattle.closure.proofs.{Grouped.line_boxes, GroupPushes.out_of_group}

module _ (level : Level) (groups : Groups) (grouped : IsGrouped groups) (j : ℕ) (lt : j < length groups.arena.lines.items) (left : List Push)
    (rest : IsRest level groups (slice_index groups.of.items j) left) where
  abbrev line : Pattern
  line = pattern_at (list_of groups) j

  abbrev own : Pattern
  own = position_at level groups (slice_index groups.of.items j)

  same : line.boxes ≡ own.boxes
  same = search (line_boxes)

  left_or_covered : (push : Push) → PushesOut level line push → Contains left push ⊎ IsCovered level (list_of groups) (after_push line push)
  left_or_covered push out = either (rest.all push (out_of_group level groups grouped j lt push out)) inl
      (λ covered. inr (subst (λ b. IsCovered level (list_of groups) (state_after b push)) (sym same) covered))

  -- The push that was found in the region is the first one. If none was found, all are covered.
  pub first_of : (region : Cells) → ((c : Cell) → Has region c ↔ InPatternRegion level line c) → (r : Option Push)
      → ((f : Push) → r ≡ Some f → Contains left f × Has region f.player)
      → ((p : Push) → Contains left p → Has region p.player → (f : Push) × (r ≡ Some f) × (PushBefore p f → ⊥))
      → MatchOption r (CoversPushesOf level (list_of groups) line) (IsFirstUncovered level (list_of groups) line)
  first_of region in_line None only least = λ push out. either (left_or_covered push out)
      (λ listed. let found = least push listed ((in_line push.player).1 out.standing) in absurd (none-some found.0 found.1))
      (λ covered. covered)
  first_of region in_line (Some first) only least =
      let found = only first refl in
      let known = rest.only first found.0 in
      let out = known.0 in
      record {
        out = record {
          standing = (in_line first.player).0 found.1;
          next_cell = out.next_cell;
          box = rw same out.box;
          cell_behind = out.cell_behind;
          free = rw same out.free;
        };
        uncovered = λ covered. known.1 (subst (λ b. IsCovered level (list_of groups) (state_after b first)) same covered);
        first = λ earlier goes before. either (left_or_covered earlier goes)
            (λ there.
            let other = least earlier there ((in_line earlier.player).1 goes.standing) in
            absurd (other.2 (rw (same_Some first other.0 other.1) at before)))
            (λ covered. covered);
      }

-- what a set that was chosen has
pub chosen : (b : Bool) (x y z : Cells) (c : Cell) (Q : Type 0) → MatchBool b (z ≡ x) (z ≡ y) → MatchBool b (Has x c) (Has y c) ↔ Q → Has z c ↔ Q
chosen true x y z c Q is exact = rw is exact
chosen false x y z c Q is exact = rw is exact
