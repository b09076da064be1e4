-- An entry covers what its pattern covers. Its cells are the boxes of the pattern, and the player is on none of them; with the room, or
-- the region of the entry, that is the pattern's region. So a list of entries, one for each pattern in turn, covers what the list of
-- patterns covers.
use Rattle.std.proofs.Common.{◌≡◌, ℕ, ◌+◌, ◌<◌, List, [], ◌∷◌, ◌++◌, length, get_or, None, ◌∙◌, ap, arith}
use Rattle.std.specs.Prelude.{◌↔◌}
use Rattle.std.proofs.lemmas.List.{get_or_default}
use Rattle.board.specs.Game.{Level, State}
use Rattle.certificates.specs.Pattern.{Pattern, Covers, IsCovered}
use Rattle.closure.specs.Arena.{pattern_at}
use Rattle.closure.proofs.Lists.{each_more, length_more}
use Rattle.closure.specs.Scan.{AreEntries, EntryCells, EntryCovers, EntriesCover, IsEntryOf}

module _ (level : Level) (s : State) where
  entry_covers : (pattern : Pattern) (entry : EntryCells) → IsEntryOf level pattern entry → EntryCovers level.room entry s ↔ Covers level pattern s
  entry_covers pattern entry is = grind arith

  -- the entries cover what the patterns cover
  pub entries_cover : (patterns : List Pattern) (entries : List EntryCells) → AreEntries level patterns (length patterns) entries
      → EntriesCover level.room entries s ↔ IsCovered level patterns s
  entries_cover patterns entries are =
      let long = are.long in (
        λ (e, (k, lt, is), covers).
            let low : k < length patterns = omega arith in
            (pattern_at patterns k, (k, low, get_or_default patterns k _ _ low), (entry_covers _ e (rw is at (are.each k e low))).0 covers),
        λ (p, (k, lt, is), covers).
            let d : EntryCells = record { extent = level.shape; boxes = []; region = None } in
            let low : k < length entries = omega arith in
            let here : pattern_at patterns k ≡ p = get_or_default patterns k _ p lt ∙ is in
            (get_or entries k d, (k, low, get_or_default entries k _ d low), (entry_covers p _ (rw here at (are.each k d lt))).1 covers),
      )

-- One entry more.
pub entries_more : (level : Level) (patterns : List Pattern) (n : ℕ) (old new : List EntryCells) (entry : EntryCells) → AreEntries level patterns n old
    → new ≡ old ++ entry ∷ [] → IsEntryOf level (pattern_at patterns n) entry → AreEntries level patterns (n + 1) new
entries_more level patterns n old new entry are is here =
    let long = are.long in
    rw is (record {
      long = length_more old entry ∙ ap (λ k. k + 1) long;
      each = λ k e lt. each_more (λ k. IsEntryOf level (pattern_at patterns k)) old entry e (λ i low. are.each i e (omega arith)) (rw long here) k (omega arith);
    })
