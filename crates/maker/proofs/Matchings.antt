-- How the boxes are matched to goals in reading order.
-- The boxes handled so far are the first boxes in reading order, and each of them is matched to a goal. The next box is matched too, or the
-- search from it shows a Hall violator. If no search shows one, all boxes are matched at the end.
use Rattle.std.proofs.Common.{◌≡◌, ℕ, ◌+◌, List, [], ◌∷◌, ◌++◌, arith}
use Rattle.std.specs.Prelude.{Option, None, slice_index_or}
use Rattle.std.specs.FinSet as set
use Rattle.std.specs.FinSet.{len-empty}
use Rattle.cellset.specs.Shape.{Extent}
use Rattle.cellset.specs.Cell.{cell_cmp}
use Rattle.cellset.specs.CellSet.{Cells, Has, Lacks}
use Rattle.cellset.specs.declared.cell.Cell.{Cell}
use Rattle.cellset.proofs.Members.{inserted, kept_by_insert, has_insert, has_empty, same_members, lacks_where}
use Rattle.cellset.proofs.ReadingOrder.{before_itself}
use Rattle.cellset.proofs.MemberLists.{next_has, came_before, all_came}
use Rattle.cellset.specs.Members.{AreMembersOf}
use Rattle.std.specs.List.{Contains}
use Rattle.std.proofs.lemmas.List.Elements.{Contains-append_left, Contains-push, Contains-push_cases}
use Rattle.certificates.proofs.Counts.{len-insert_new}
use Rattle.maker.proofs.Listing.{came_earlier}
use Rattle.cellset.proofs.Truth.{either}
use Rattle.board.specs.Game.{Level}
use Rattle.maker.specs.Zones.{AreFirstBoxes, SomeZoneRefutes, IsLeastZone}
use Rattle.maker.specs.Matching.{IsHallViolator}
use Rattle.maker.specs.Search.{Pairs, IsMatchingOf, MatchesOneMore}
use Rattle.maker.proofs.LeastZones.{violator_least, none_refutes}

-- the boxes handled so far are the first boxes in reading order, and the table is a matching of them
pub record IsMatchedSoFar (level : Level) (matching : List (Option Cell)) (came : List Cell) : Type 0 where
  pub matched : Cells
  pub count : ℕ
  pub first : AreFirstBoxes level count matched
  pub valid : IsMatchingOf level matched matching
  pub all : (q : Cell) → Contains came q → Has matched q
  pub only : (q : Cell) → Has matched q → Contains came q

pub matched_none : (level : Level) (matching : List (Option Cell)) → ((g b : Cell) → Pairs level.shape matching g b → ⊥) → IsMatchedSoFar level matching []
matched_none level matching unmatched = record {
  matched = set.empty;
  count = 0;
  first = record { boxes = λ c h. has_empty c h; earlier = λ c b h. has_empty c h; count = len-empty cell_cmp };
  valid = record {
    boxes = λ c h. has_empty c h;
    pairs = record {
      goal = λ g b pair. absurd (unmatched g b pair);
      box = λ g b pair. absurd (unmatched g b pair);
      reach = λ g b pair. absurd (unmatched g b pair);
      one_box = λ g b c pair. absurd (unmatched g b pair);
      one_goal = λ g h b pair. absurd (unmatched g b pair);
      each = λ b h. has_empty b h;
    };
  };
  all = λ q (k, within, is). absurd (omega arith);
  only = λ q h. has_empty q h;
}

module _ {shape : Extent} (level : Level) (came left : List Cell) (m : Cell) (matching : List (Option Cell))
    (members : AreMembersOf shape level.boxes (came ++ m ∷ left)) (so_far : IsMatchedSoFar level matching came) where
  box : Has level.boxes m
  box = (next_has came left m members).0

  new : Lacks so_far.matched m
  new = lacks_where so_far.matched m (λ h. before_itself m (came_earlier came left m m members.in_order (so_far.only m h)))

  -- the first boxes and the next box are the first boxes too, one more of them
  next_first : AreFirstBoxes level (so_far.count + 1) (set.insert so_far.matched m)
  next_first = record {
    boxes = λ c h. either (has_insert so_far.matched m c h) (λ e. rw e box) (so_far.first.boxes c);
    earlier = λ c b h is_box before. kept_by_insert so_far.matched m b (either (has_insert so_far.matched m c h)
        (λ e. so_far.all b (came_before came left m members b is_box (rw e at before)))
        (λ old. so_far.first.earlier c b old is_box before));
    count = let one = len-insert_new so_far.matched m new in let count = so_far.first.count in omega arith;
  }

  pub matched_more : (matching' : List (Option Cell)) → MatchesOneMore level matching m matching' → IsMatchedSoFar level matching' (came ++ m ∷ [])
  matched_more matching' matches = record {
    matched = set.insert so_far.matched m;
    count = so_far.count + 1;
    first = next_first;
    valid = matches so_far.matched so_far.valid box new;
    all = λ q h. either (Contains-push_cases came m q h)
        (λ old. kept_by_insert so_far.matched m q (so_far.all q old))
        (λ e. rw (← e) (inserted so_far.matched m));
    only = λ q h. either (has_insert so_far.matched m q h)
        (λ e. rw e (Contains-push came m))
        (λ old. Contains-append_left came (m ∷ []) q (so_far.only q old));
  }

  -- a Hall violator of the next box is the least zone
  pub violator_here : (zone : Cells) → IsHallViolator level (Pairs level.shape matching) m zone → IsLeastZone level zone
  violator_here zone violator = search (violator_least, new, next_first)

-- if all boxes are matched, no zone refutes the level
pub matched_end : {shape : Extent} (level : Level) (matching : List (Option Cell)) (came : List Cell) → AreMembersOf shape level.boxes (came ++ [])
    → IsMatchedSoFar level matching came → SomeZoneRefutes level → ⊥
matched_end {shape} level matching came members so_far =
    let whole = all_came shape level.boxes came members in
    let same : so_far.matched ≡ level.boxes = same_members so_far.matched level.boxes so_far.first.boxes (λ q h. so_far.all q ((whole.exact q).1 h)) in
    none_refutes level (Pairs level.shape matching) (rw same at so_far.valid.pairs)

-- an empty table matches no goal
pub pairs_none : (shape : Extent) (matching : List (Option Cell)) → ((k : ℕ) → slice_index_or matching k None ≡ None) → (g b : Cell)
    → Pairs shape matching g b → ⊥
pairs_none shape matching unmatched g b pair = grind arith
