-- The order of pushes, and what follows from it for a loop over the pushes out of a region.
-- Pushes are ordered by two keys, the player's cell and the direction, each in a total order, so their order is total;
-- and two pushes out of a region that tie are one, since both keys fix the cells that the box leaves and enters.
-- In a list in this order a push that is before another one also comes before it. So of the pushes out of a region those
-- before the one that comes next are exactly those that came already.
use Rattle.std.proofs.Common.{◌≡◌, refl, ◌∙◌, ap, arith}
use Rattle.std.proofs.lemmas.Bool.{false≢true}
use Rattle.std.proofs.lemmas.Cmp.{on_total, then_total, nat_cmp_total, tied_itself}
use Rattle.std.specs.Cmp.{IsTotalOrder}
use Rattle.std.specs.declared.cmp.Ordering.{Ordering}
use Rattle.std.specs.declared.cmp.Ordering.TheVariants.{Less, Equal, Greater}
use Rattle.std.specs.Ordering.{nat_cmp, ordering_then, ordering_reverse}
use Rattle.cellset.specs.Cell.{Before, cell_cmp}
use Rattle.cellset.specs.declared.dir.Dir.{Dir}
use Rattle.cellset.specs.declared.dir.Dir.TheVariants.{L, U, R, D}
use Rattle.cellset.proofs.Members.{cells_total}
use Rattle.reach.specs.Pushes.{PushBefore, push_cmp, dir_rank}
use Rattle.reach.specs.declared.pushes.Push.{Push}

pub pushes_total : IsTotalOrder push_cmp
pushes_total = then_total (on_total (λ p. p.player) cells_total) (on_total (λ p. dir_rank p.dir) nat_cmp_total)

pub push_before_itself : {G : Type 0} (p : Push) → PushBefore p p → G
push_before_itself p h = grind (arith, false≢true, tied_itself, pushes_total)

pub push_before_trans : (a b c : Push) → PushBefore a b → PushBefore b c → PushBefore a c
push_before_trans a b c h k = pushes_total.trans a b c h k

-- directions of the same rank are equal
pub same_dir : (a b : Dir) → dir_rank a ≡ dir_rank b → a ≡ b
same_dir L L h = refl
same_dir L U h = absurd (omega arith)
same_dir L R h = absurd (omega arith)
same_dir L D h = absurd (omega arith)
same_dir U L h = absurd (omega arith)
same_dir U U h = refl
same_dir U R h = absurd (omega arith)
same_dir U D h = absurd (omega arith)
same_dir R L h = absurd (omega arith)
same_dir R U h = absurd (omega arith)
same_dir R R h = refl
same_dir R D h = absurd (omega arith)
same_dir D L h = absurd (omega arith)
same_dir D U h = absurd (omega arith)
same_dir D R h = absurd (omega arith)
same_dir D D h = refl

pub player_before : (a b : Push) → Before a.player b.player → PushBefore a b
player_before a b h = search

-- of two pushes, one is before the other, or they have the same player's cell and direction
pub push_before_or_after : {G : Type 0} (a b : Push) → (PushBefore a b → G) → (a.player ≡ b.player → a.dir ≡ b.dir → G) → (PushBefore b a → G) → G
push_before_or_after {G} a b if_before if_same if_after =
    elim (push_cmp a b) as (λ o. push_cmp a b ≡ o → G) [
      | Less ↦ if_before
      | Equal ↦ λ e. tied (cell_cmp a.player b.player) refl e
      | Greater ↦ λ e. if_after (pushes_total.antisymm b a ∙ ap ordering_reverse e)
    ] refl
  where
    tied : (o : Ordering) → cell_cmp a.player b.player ≡ o → ordering_then o (nat_cmp (dir_rank a.dir) (dir_rank b.dir)) ≡ Equal → G
    tied Less e k = absurd (cc)
    tied Equal e k = grind arith
    tied Greater e k = absurd (cc)
