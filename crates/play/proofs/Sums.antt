-- Walks, played by a sum. The sum holds a place in its low part and a number of letters in its high part. A small
-- letter adds its stride and one letter, and the places of one chunk never reach the high part. So the low part is the
-- place to which the walks lead, if each cell on the way is free. A byte that isn't a walk makes the sum larger than
-- any sum of walks. The number of bytes of a mailbox is a power of two, so the mask leaves each place that has a byte as it
-- is. A step from a free cell leads to such a place.
use Rattle.std.proofs.Common.{◌≡◌, ℕ, ◌+◌, ◌-◌, ◌*◌, ◌/◌, ◌%◌, ◌^◌, ◌<◌, ◌≤◌, List, [], ◌∷◌, ◌++◌, length, take, get_or, refl, sym, ◌∙◌, ap}
use Rattle.std.proofs.Common.{subst, inl, inr, arith}
use Rattle.std.specs.Prelude.{bit_and, bit_or}
use Rattle.std.proofs.Math.Nat.{mod-eq_of_lt, pow-le-pow_right}
use Rattle.std.proofs.Math.Pow.{mod-mod-pow}
use Rattle.std.proofs.lemmas.Bool.{false≢true}
use Rattle.std.proofs.lemmas.Nat.{and_mask, le_or_l, le_or_r, pow_pos}
use Rattle.cellset.specs.declared.dir.Dir.{Dir}
use Rattle.cellset.specs.declared.dir.Dir.TheVariants.{L, U, R, D}
use Rattle.board.specs.Game.{Level}
use Rattle.play.specs.Spelling.{letters}
use Rattle.play.specs.Mailbox.{HasMask, stride}
use Rattle.play.specs.Letter.{IsAdded}
use Rattle.play.specs.Progress.{Progress, WalksOn}
use Rattle.play.specs.declared.run.Run.{Run}
use Rattle.play.specs.declared.letters.Letter.{Letter as ReadLetter}
use Rattle.play.specs.declared.letters.TheConstants.{WALK, LETTER, NO_WALK}
use Rattle.play.specs.declared.mailbox.TheConstants.{FREE}
use Rattle.play.proofs.Texts.{letters_more}
use Rattle.play.proofs.OneLetter.{ahead_within, walked, not_blank}
use Rattle.play.proofs.Replays.{continues_then}

-- the state of a run once letters were walked
abbrev pub led : Run → ℕ → ℕ → Run
led run player moves = record { player = player; last = run.last; tally = record run.tally { moves = moves } }

small_stride : (d : Dir) → stride d ≤ 65535
small_stride L = omega arith
small_stride U = omega arith
small_stride R = omega arith
small_stride D = omega arith

pub added_small : {b e : ℕ} → IsAdded b e → e ≤ NO_WALK
added_small (inl (_, is)) = omega arith
added_small (inr (inl (d, _, is))) = let s = small_stride d in omega arith
added_small (inr (inr is)) = omega arith

added_low : {b e : ℕ} (sum : ℕ) {i : ℕ} → IsAdded b e → sum % LETTER ≤ 65535 * (i + 1) → i < 8 → (sum + e) % LETTER ≤ 65535 * (i + 2)
added_low sum (inl (_, is)) low few = omega arith
added_low sum (inr (inl (d, _, is))) low few = let s = small_stride d in omega arith
added_low sum (inr (inr is)) low few = omega arith

added_letters : {b e : ℕ} (sum : ℕ) {i : ℕ} → IsAdded b e → sum % LETTER ≤ 65535 * (i + 1) → i < 8 → sum + e < NO_WALK → sum / LETTER ≤ i → (sum + e) / LETTER ≤ i + 1
added_letters sum (inl (_, is)) low few walk count = omega arith
added_letters sum (inr (inl (d, _, is))) low few walk count = let s = small_stride d in omega arith
added_letters sum (inr (inr is)) low few walk count = absurd (omega arith)

-- ---- the mask of a mailbox
pub mask_fits : (mailbox : List ℕ) → HasMask mailbox → (1 ≤ length mailbox) × (length mailbox ≤ 65536)
mask_fits mailbox (k, small, long) = grind (arith, pow_pos, pow-le-pow_right)

pub masked : (mailbox : List ℕ) → HasMask mailbox → (n : ℕ) → bit_and n (length mailbox - 1) ≡ n % length mailbox
masked mailbox (k, small, long) n = grind (arith, and_mask)

-- the mask of a mailbox leaves a place that has a byte as it is
place_masked : (mailbox : List ℕ) → HasMask mailbox → (n p : ℕ) → p ≡ n % 65536 → p < length mailbox → n % length mailbox ≡ p
place_masked mailbox (k, small, long) n p is within =
    let whole : 16 - k + k ≡ 16 = omega arith in
    ap (λ m. n % m) long ∙ sym (mod-mod-pow n (16 - k) k) ∙ ap (λ j. n % 2 ^ j % 2 ^ k) whole ∙ ap (λ q. q % 2 ^ k) (sym is) ∙ mod-eq_of_lt (rw long at within)

-- a walk by one letter more
module _ (level : Level) (done mailbox : List ℕ) (run : Run) (has_mask : HasMask mailbox) (before : Progress level done mailbox run) (b e sum m : ℕ) where
  walked_one : IsAdded b e → run.player ≡ sum % 65536 → run.tally.moves ≡ m + sum / LETTER → sum % LETTER + 65535 < LETTER → sum + e < NO_WALK
      → get_or mailbox ((sum + e) % length mailbox) 0 ≡ FREE
      → Progress level (done ++ letters (b ∷ [])) mailbox (led run ((sum + e) % 65536) (m + (sum + e) / LETTER))
  walked_one (inl (blank, is)) at moves low walk free =
      let letter : ReadLetter = record { byte = b; step = 0; kind = WALK } in
      let there : (run.player + 0) % 65536 ≡ (sum + e) % 65536 = omega arith in
      subst (λ n. Progress level (done ++ letters (b ∷ [])) mailbox (led run n (m + (sum + e) / LETTER))) there
      (walked level done mailbox run before letter (inl (blank, refl, refl)) refl
      (grind (arith, place_masked, ahead_within)) (m + (sum + e) / LETTER)
      (λ d named. absurd (false≢true (sym (not_blank d (inl named)) ∙ blank)))
      (λ _. omega arith))
  walked_one (inr (inl (d, named, is))) at moves low walk free =
      let letter : ReadLetter = record { byte = b; step = stride d; kind = WALK } in
      let s = small_stride d in
      let there : (run.player + stride d) % 65536 ≡ (sum + e) % 65536 = omega arith in
      subst (λ n. Progress level (done ++ letters (b ∷ [])) mailbox (led run n (m + (sum + e) / LETTER))) there
      (walked level done mailbox run before letter (inr (inl (d, named, refl, refl))) refl
      (ap (λ n. get_or mailbox n 0) (sym (place_masked mailbox has_mask (sum + e) _ there
      (ahead_within level done mailbox run before letter (inr (inl (d, named, refl, refl)))))) ∙ free) (m + (sum + e) / LETTER)
      (λ _ _. omega arith)
      (λ blank. absurd (false≢true (sym (not_blank d (inl named)) ∙ blank))))
  walked_one (inr (inr is)) at moves low walk free = absurd (omega arith)

-- how far a chunk is walked
pub record IsWalked (mailbox : List ℕ) (player : ℕ) (chunk : List ℕ) (i sum met : ℕ) : Type 0 where
  pub low : sum % LETTER ≤ 65535 * (i + 1)
  pub bounded : sum ≤ 65535 + NO_WALK * i
  pub count : met ≡ FREE → sum < NO_WALK → sum / LETTER ≤ i
  pub walks : met ≡ FREE → sum < NO_WALK → WalksOn mailbox player (letters (take i chunk)) (sum % 65536) (sum / LETTER)

pub walked_more : {mailbox : List ℕ} → HasMask mailbox → (player : ℕ) (chunk : List ℕ) (i sum met e : ℕ) → length chunk ≤ 8 → i < length chunk
    → IsAdded (get_or chunk i 0) e → IsWalked mailbox player chunk i sum met
    → IsWalked mailbox player chunk (i + 1) (sum + e) (bit_or met (get_or mailbox ((sum + e) % length mailbox) 0))
walked_more {mailbox} has_mask player chunk i sum met e few within adds before = record {
  low = let l = added_low sum adds before.low below in omega arith;
  bounded = let s = added_small adds in let old = before.bounded in omega arith;
  count = λ free walk. added_letters sum adds before.low below walk (before.count (parts free).0 (less walk));
  walks = λ free walk run at.
      let first = before.walks (parts free).0 (less walk) run at in
      rw (letters_more chunk within) (continues_then first
      (λ level done here. walked_one level done mailbox (led run (sum % 65536)
      (run.tally.moves + sum / LETTER)) has_mask here b e sum run.tally.moves adds refl refl (omega arith) walk (parts free).1));
}
  where
    b : ℕ
    b = get_or chunk i 0

    below : i < 8
    below = omega arith

    less : sum + e < NO_WALK → sum < NO_WALK
    less walk = omega arith

    parts : bit_or met (get_or mailbox ((sum + e) % length mailbox) 0) ≡ FREE → (met ≡ FREE) × (get_or mailbox ((sum + e) % length mailbox) 0 ≡ FREE)
    parts free = grind (arith, le_or_l, le_or_r)
