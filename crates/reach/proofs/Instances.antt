-- Regions are what walks reach: a chain of free neighbours is a chain of walks.
use Rattle.std.proofs.Common.{refl, sym, subst, inl, inr}
use Rattle.std.specs.Prelude.{◌↔◌, ◌⊎◌}
use Rattle.std.specs.FinSet as set
use Rattle.std.specs.FinSet.{contains-empty}
use Rattle.cellset.specs.Shape.{Extent}
use Rattle.cellset.specs.Cell.{neighbor, cell_cmp}
use Rattle.cellset.specs.CellSet.{Cells, Has}
use Rattle.cellset.specs.declared.cell.Cell.{Cell}
use Rattle.cellset.proofs.Members.{lacks_where, not_both}
use Rattle.cellset.proofs.Truth.{either}
use Rattle.reach.specs.Region.{Joined, IsFree, IsRegion}
use Rattle.reach.proofs.Sets.{has_union}
use Rattle.reach.specs.Region as region
use Rattle.reach.specs.Reached.{Reached, at_seed, by_step, WalksTo}

pub joined_is : (F S : Cell → Type 0) (c : Cell) → Joined F S c ↔ Reached (WalksTo F) (λ q. S q × F q) c
joined_is F S c = (there c, back c)
  where
    there : (c : Cell) → Joined F S c → Reached (WalksTo F) (λ q. S q × F q) c
    there c (region.at_seed seed free) = at_seed (seed, free)
    there c (region.beside {c = b} d before free) = by_step b (there b before) (record { dir = d; next = refl; free = free })

    back : (c : Cell) → Reached (WalksTo F) (λ q. S q × F q) c → Joined F S c
    back c (at_seed (seed, free)) = region.at_seed seed free
    back c (by_step b before step) = subst (Joined F S) (sym step.next) (region.beside step.dir (back b before) (rw step.next at step.free))

-- walks over more free cells, and from more seeds, reach no less
pub walked_more : (F G S T : Cell → Type 0) → ((c : Cell) → F c → G c) → ((c : Cell) → S c → T c) → (c : Cell) → Reached (WalksTo F) S c
    → Reached (WalksTo G) T c
walked_more F G S T f s c (at_seed h) = at_seed (s c h)
walked_more F G S T f s c (by_step b before w) = by_step b (walked_more F G S T f s b before) (record { dir = w.dir; next = w.next; free = f c w.free })

-- a chain of free cells from a seed is one for more free cells and more seeds
pub joined_map : (F G S T : Cell → Type 0) → ((c : Cell) → F c → G c) → ((c : Cell) → S c → T c) → (c : Cell) → Joined F S c → Joined G T c
joined_map F G S T f g c (region.at_seed seed free) = region.at_seed (g c seed) (f c free)
joined_map F G S T f g c (region.beside {c = b} d before free) = region.beside d (joined_map F G S T f g b before) (f (neighbor b d) free)

-- walls and a barrier bound a region as their union does
pub barred_region : (shape : Extent) (walls barrier seeds region : Cells) → IsRegion shape (set.union walls barrier) set.empty seeds region
    → IsRegion shape walls barrier seeds region
barred_region shape walls barrier seeds region is q = (
  λ h. joined_map (IsFree shape (set.union walls barrier) set.empty) (IsFree shape walls barrier) (Has seeds) (Has seeds) apart (λ _ s. s) q ((is q).0 h),
  λ j. (is q).1 (joined_map (IsFree shape walls barrier) (IsFree shape (set.union walls barrier) set.empty) (Has seeds) (Has seeds) whole (λ _ s. s) q j),
)
  where
    bars : (p : Cell) → Has (set.union walls barrier) p ↔ (Has walls p ⊎ Has barrier p)
    bars = has_union walls barrier (set.union walls barrier) refl

    apart : (p : Cell) → IsFree shape (set.union walls barrier) set.empty p → IsFree shape walls barrier p
    apart p f = record {
      on = f.on;
      no_wall = lacks_where walls p (λ w. not_both (set.union walls barrier) p ((bars p).1 (inl w)) f.no_wall);
      no_bar = lacks_where barrier p (λ b. not_both (set.union walls barrier) p ((bars p).1 (inr b)) f.no_wall);
    }

    whole : (p : Cell) → IsFree shape walls barrier p → IsFree shape (set.union walls barrier) set.empty p
    whole p f = record {
      on = f.on;
      no_wall = lacks_where (set.union walls barrier) p (λ h. either ((bars p).0 h) (λ w. not_both walls p w f.no_wall) (λ b. not_both barrier p b f.no_bar));
      no_bar = contains-empty cell_cmp p;
    }
