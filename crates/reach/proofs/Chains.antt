-- Floods by rows, for any kind of step.
-- Each cell of the region is reached from a seed, and no step leads out of the region from a row outside the worklist. A look takes
-- a row from the worklist, adds what steps along it reach, and adds to the rows above and below what steps from it reach. Each of
-- those two joins the worklist if it grew. Once the worklist is empty, no step leads out of the region, so it has all that is reached.
use Rattle.std.proofs.Common.{◌≡◌, ℕ, ◌+◌, ◌<◌, List, [], length, get_or, ◌∙◌, inl, inr, arith}
use Rattle.std.specs.Prelude.{◌⊎◌, ◌↔◌}
use Rattle.std.proofs.Math.ListN.{set}
use Rattle.std.proofs.lemmas.Bool.{cases_eq}
use Rattle.cellset.specs.Shape.{Extent}
use Rattle.cellset.specs.Cell.{IsOn, cell_at}
use Rattle.cellset.specs.declared.cell.Cell.{Cell}
use Rattle.cellset.proofs.Truth.{either}
use Rattle.reach.specs.Bits.{HasBit}
use Rattle.reach.specs.BitRows.{InRows, InRow}
use Rattle.reach.proofs.Written.{IsWritten, row_written, as_at, to_row, of_row}
use Rattle.reach.specs.Reached.{Reached, at_seed, by_step, IsClosedUnder}
use Rattle.reach.specs.Grown.{IsAbove, IsBeside, IsOffered, IsLookedAt}

-- cells reached from reached cells are reached, also from more seeds
pub reached_twice : (L : Cell → Cell → Type 0) (S T : Cell → Type 0) → ((c : Cell) → T c → Reached L S c) → (c : Cell) → Reached L T c → Reached L S c
reached_twice L S T f c (at_seed seed) = f c seed
reached_twice L S T f c (by_step b before step) = by_step b (reached_twice L S T f b before) step

pub reached_more : (L : Cell → Cell → Type 0) (S T : Cell → Type 0) → ((c : Cell) → S c → T c) → (c : Cell) → Reached L S c → Reached L T c
reached_more L S T f c (at_seed seed) = at_seed (f c seed)
reached_more L S T f c (by_step b before step) = by_step b (reached_more L S T f b before) step

-- a set that no step leads out of has all that is reached from it
pub reached_within : (L : Cell → Cell → Type 0) (S : Cell → Type 0) → IsClosedUnder L S → (c : Cell) → Reached L S c → S c
reached_within L S closed c (at_seed seed) = seed
reached_within L S closed c (by_step b before step) = search (reached_within L S closed b before)

-- the invariant of a flood
pub record IsGrowing (L : Cell → Cell → Type 0) (Seed Region : Cell → Type 0) (Waits : ℕ → Type 0) : Type 0 where
  pub sound : (c : Cell) → Region c → Reached L Seed c
  pub kept : (c : Cell) → Seed c → Region c
  pub settled : (b : Cell) → Region b → Waits b.row ⊎ ((c : Cell) → L b c → Region c)

pub growing_start : (L : Cell → Cell → Type 0) (S : Cell → Type 0) (W : ℕ → Type 0) → ((c : Cell) → S c → W c.row) → IsGrowing L S S W
growing_start L S W waits = record { sound = λ c h. at_seed h; kept = λ c h. h; settled = λ b h. inl (waits b h) }

-- the invariant of a flood still holds after a row was taken from the worklist and looked at
pub growing_more : (L : Cell → Cell → Type 0) (S G G' : Cell → Type 0) (W Rest W' : ℕ → Type 0) (row : ℕ)
    → IsGrowing L S G W → ((k : ℕ) → W k → (k ≡ row) ⊎ Rest k) → IsLookedAt L row G Rest G' W' → IsGrowing L S G' W'
growing_more L S G G' W Rest W' row g rest s = grind (arith, reached_twice, either)

-- with an empty worklist the region is complete
complete : (L : Cell → Cell → Type 0) (S G : Cell → Type 0) (W : ℕ → Type 0) → ((k : ℕ) → W k → ⊥) → IsGrowing L S G W → (c : Cell) → Reached L S c → G c
complete L S G W none g c (at_seed seed) = g.kept c seed
complete L S G W none g c (by_step b before step) = grind (arith, complete L S G W none g b before)

pub growing_end : (L : Cell → Cell → Type 0) (S G : Cell → Type 0) (W : ℕ → Type 0) → ((k : ℕ) → W k → ⊥) → IsGrowing L S G W → (c : Cell) → G c ↔ Reached L S c
growing_end L S G W none g c = grind (arith, complete)

-- ---- one look
-- a row that was filled has all that steps along it reach
pub record IsRowFilled (L : Cell → Cell → Type 0) (row : ℕ) (Region NewRegion : Cell → Type 0) : Type 0 where
  pub kept : (c : Cell) → Region c → NewRegion c
  pub sound : (c : Cell) → NewRegion c → Reached L Region c
  pub added : (c : Cell) → NewRegion c → Region c ⊎ (c.row ≡ row)
  pub closed : (b c : Cell) → b.row ≡ row → c.row ≡ row → NewRegion b → L b c → NewRegion c

pub look : (L : Cell → Cell → Type 0) (row above n : ℕ) (Region Filled Raised New : Cell → Type 0) (Waits More NewWaits : ℕ → Type 0)
    → ((b c : Cell) → L b c → IsBeside b c) → ((b c : Cell) → L b c → b.row < n → c.row < n) → row < n
    → ((y : ℕ) → IsAbove row y → y ≡ above) → (above ≡ row → ⊥)
    → IsRowFilled L row Region Filled → IsOffered L row above n Filled Waits Raised More → IsOffered L row (row + 1) n Raised More New NewWaits
    → IsLookedAt L row Region Waits New NewWaits
look L row above n Region Filled Raised New Waits More NewWaits beside within low is_above apart filled up down = record {
  kept = λ c h. down.kept c (up.kept c (filled.kept c h));
  sound = λ c h. either (down.added c h) (sound_up c) (λ (_, _, (b, (from, step))). by_step b (sound_up b from) step);
  added = λ c h. grind arith;
  here = λ b c e h step. go b c e (same_row b e h) step;
  waits = λ k w. down.waits k (up.waits k w);
}
  where
    sound_up : (c : Cell) → Raised c → Reached L Region c
    sound_up c h = either (up.added c h) (filled.sound c) (λ (_, _, (b, (from, step))). by_step b (filled.sound b from) step)

    same_row : (b : Cell) → b.row ≡ row → New b → Filled b
    same_row b e h = grind arith

    go : (b c : Cell) → b.row ≡ row → Filled b → L b c → New c
    go b c e h step =
        let in_rows : c.row < n = within b c step (rw e low) in
        either (beside b c step)
        (λ same. down.kept c (up.kept c (filled.closed b c e (same ∙ e) h step)))
        (λ (column, side). either side
        (λ raised. down.kept c (up.all b c e (is_above c.row (rw e at raised)) in_rows column h step))
        (λ lowered. down.all b c e (rw e at lowered) in_rows column (up.kept b h) step))

-- ---- rows of bits
pub row_filled : (L : Cell → Cell → Type 0) (region : List (List ℕ)) (y : ℕ) (row : List ℕ) → y < length region
    → ((k : ℕ) → HasBit (get_or region y []) k → HasBit row k) → ((k : ℕ) → HasBit row k → Reached L (InRow y (get_or region y [])) (cell_at k y))
    → ((j k : ℕ) → HasBit row j → L (cell_at j y) (cell_at k y) → HasBit row k) → IsRowFilled L y (InRows region) (InRows (set region y row))
row_filled L region y row within kept sound closed = record {
  kept = kept_all;
  sound = λ c h. either (written.only c h)
      (λ (e, bit). grind (arith, as_at, reached_more, of_row))
      (λ (_, old). at_seed old);
  added = λ c h. either (written.only c h) (λ (e, _). inr e) (λ (_, old). inl old);
  closed = λ b c e f h step. written.same c f (closed b.column c.column
      (either (written.only b h) (λ (_, bit). bit) (λ (ne, _). absurd (ne e)))
      (rw (as_at b y e, as_at c y f) step));
}
  where
    written : IsWritten (InRows region) y (HasBit row) (InRows (set region y row))
    written = row_written region y row within

    kept_all : (c : Cell) → InRows region c → InRows (set region y row) c
    kept_all c h = elim (cases_eq c.row y) [
      | inl e ↦ written.same c e (kept c.column (to_row region y c e h))
      | inr ne ↦ written.other c ne h
    ]

-- a row that joined another one has the columns to which a step leads from it
module _ (L : Cell → Cell → Type 0) (region : List (List ℕ)) (from to : ℕ) (way row : List ℕ) (within : to < length region)
    (leads : (k : ℕ) → HasBit way k ↔ L (cell_at k from) (cell_at k to))
    (bits : (k : ℕ) → HasBit row k ↔ (HasBit (get_or region to []) k ⊎ (HasBit (get_or region from []) k × HasBit way k))) where
  offered_kept : (c : Cell) → InRows region c → InRows (set region to row) c
  offered_kept c h = elim (cases_eq c.row to) [
    | inl e ↦ (row_written region to row within).same c e ((bits c.column).1 (inl (to_row region to c e h)))
    | inr ne ↦ (row_written region to row within).other c ne h
  ]

  offered_all : (n : ℕ) (b c : Cell) → b.row ≡ from → c.row ≡ to → c.row < n → c.column ≡ b.column → InRows region b → L b c → InRows (set region to row) c
  offered_all n b c e f low column h step = (row_written region to row within).same c f (grind arith)

  pub offered_more : (n : ℕ) (W W' : ℕ → Type 0) → ((k : ℕ) → W' k ↔ (W k ⊎ (k ≡ to))) → IsOffered L from to n (InRows region) W (InRows (set region to row)) W'
  offered_more n W W' waits = record {
    kept = offered_kept;
    added = λ c h. either ((row_written region to row within).only c h)
        (λ (e, bit). either ((bits c.column).0 bit)
        (λ old. inl (of_row region to c e old))
        (λ (here, clear). inr (
          e,
          (waits c.row).1 (inr e),
          (cell_at c.column from, (here, rw (as_at c to e) at ((leads c.column).0 clear))),
        )))
        (λ (_, old). inl old);
    all = offered_all n;
    waits = λ k w. (waits k).1 (inl w);
  }

  pub offered_same : (n : ℕ) (W : ℕ → Type 0) → row ≡ get_or region to [] → IsOffered L from to n (InRows region) W (InRows (set region to row)) W
  offered_same n W same = record {
    kept = offered_kept;
    added = λ c h. inl (either ((row_written region to row within).only c h)
        (λ (e, bit). of_row region to c e (rw same at bit))
        (λ (_, old). old));
    all = offered_all n;
    waits = λ k w. w;
  }

-- cells reached from cells of the grid are on the grid
pub reached_on : (shape : Extent) (L : Cell → Cell → Type 0) (S : Cell → Type 0) → ((b c : Cell) → L b c → IsOn shape c) → ((c : Cell) → S c → IsOn shape c)
    → (c : Cell) → Reached L S c → IsOn shape c
reached_on shape L S step seeds c (at_seed seed) = seeds c seed
reached_on shape L S step seeds c (by_step b before leads) = step b c leads
