-- The first row of a text.
-- A row ends before the first line feed of the text, or where the text ends. A carriage return right before the line feed isn't part of it.
-- The rows of the text are this row and the rows of the rest. A row of board characters ends at the first byte that is none of them: there is
-- a line end, or the end of the text, and otherwise the first line has another character.
use Rattle.std.proofs.Common.{◌≡◌, ◌≢◌, ℕ, zero, suc, ◌+◌, ◌-◌, ◌<◌, ◌≤◌, Bool, true, false, ◌==◌, ◌&&◌, List, [], ◌∷◌, ◌++◌, length, take, drop, get_or, refl, sym, ◌∙◌, ap, inl, inr, arith}
use Rattle.std.specs.Prelude.{◌⊎◌, nat_lt}
use Rattle.std.specs.List.{list_all, list_any}
use Rattle.std.proofs.lemmas.Bool.{cases_Bool, cases_eq, cases_lt, cond-true, cond-false, eq-eqb, eqb-true, ne_eqb, false≢true}
use Rattle.std.proofs.lemmas.Bool.Decides.{nat_tests}
use Rattle.std.proofs.Math.Bool.{and-false}
use Rattle.std.proofs.lemmas.List.{take_more, drop_all, drop_more, get_or_default, get_or_past, get_or-take, length-take-le}
use Rattle.std.proofs.lemmas.List.Folds.{list_all_at}
use Rattle.bstr.specs.Text.{no_cr, without_terminator}
use Rattle.lines.specs.Lines.{IsFirstLine}
use Rattle.lines.proofs.Cuts.{first_at_feed, first_lines, first_whole}
use Rattle.cellset.proofs.Truth.{and_parts}
use Rattle.board.specs.Characters.{is_board_character, is_wall}
use Rattle.board.specs.Levels.{IsBoardLine, IsFront, IsText}
use Rattle.board.specs.Lines.{byte_at, first_row, past_end}

-- a row of this length ends before the line feed at this place, or where the text ends
pub record IsFirstRow (text : List ℕ) (len feed : ℕ) : Type 0 where
  pub within : feed ≤ length text
  pub before : (k : ℕ) → k < feed → byte_at text k ≢ 10
  pub found : byte_at text feed ≡ 10
  pub end : (len ≤ feed) × (feed ≤ len + 1)
  pub return : len < feed → byte_at text len ≡ 13
  pub whole : len < feed → feed < length text
  pub plain : len ≡ feed → feed < length text → (k : ℕ) → k + 1 ≡ feed → byte_at text k ≢ 13

feed_in : (text : List ℕ) → (feed : ℕ) × (feed ≤ length text) × ((k : ℕ) → k < feed → byte_at text k ≢ 10) × (byte_at text feed ≡ 10)
feed_in [] = (0, omega arith, (λ k low. absurd (omega arith)), refl)
feed_in (b ∷ bs) = elim (cases_eq b 10) [
  | inl is ↦ (0, omega arith, (λ k low. absurd (omega arith)), is)
  | inr other ↦ let rest = feed_in bs in (suc rest.0, omega (arith, rest.1), later other rest.2, rest.3)
]
  where
    later : b ≢ 10 → {n : ℕ} → ((k : ℕ) → k < n → byte_at bs k ≢ 10) → (k : ℕ) → k < suc n → byte_at (b ∷ bs) k ≢ 10
    later other h zero low = other
    later other h (suc k) low = h k (omega arith)

take_less : (n m : ℕ) (xs : List ℕ) → n ≤ m → take n (take m xs) ≡ take n xs
take_less zero m xs le = refl
take_less (suc n) zero xs le = absurd (omega arith)
take_less (suc n) (suc m) [] le = refl
take_less (suc n) (suc m) (x ∷ xs) le = ap (λ l. x ∷ l) (take_less n m xs (omega arith))

some_suc : (n : ℕ) → nat_lt 0 (suc n) ≡ true
some_suc n = grind (arith, nat_tests)

some_long : (n : ℕ) → nat_lt 0 (n + 1) ≡ true
some_long n = grind (arith, nat_tests)

-- bytes up to a line feed, without that
ended : (text : List ℕ) (feed : ℕ) → feed < length text → byte_at text feed ≡ 10 → without_terminator (take (feed + 1) text) ≡ no_cr (take feed text)
ended text feed inside found =
    let line = take (feed + 1) text in
    let long : length line ≡ feed + 1 = length-take-le (feed + 1) text (omega arith) in
    let place : feed + 1 - 1 ≡ feed = omega arith in
    let last : get_or line feed 0 ≡ 10 = get_or-take (feed + 1) text feed 0 (omega arith) ∙ get_or_default text feed 0 10 inside ∙ found in
    let ends : (nat_lt 0 (length line) && get_or line (length line - 1) 0 == 10) ≡ true =
    ap (λ n. nat_lt 0 n && get_or line (n - 1) 0 == 10) long ∙ ap (λ b. b && get_or line (feed + 1 - 1) 0 == 10) (some_long feed)
    ∙ ap (λ k. get_or line k 0 == 10) place ∙ eq-eqb _ 10 last in
    cond-true _ _ _ ends ∙ ap no_cr (ap (λ n. take (n - 1) line) long ∙ ap (λ n. take n line) place ∙ take_less feed (feed + 1) text (omega arith))

-- the bytes before a line feed, without a carriage return at their end
record IsContent (text : List ℕ) (feed : ℕ) : Type 0 where
  pub len : ℕ
  pub is : no_cr (take feed text) ≡ take len text
  pub least : len ≤ feed
  pub most : feed ≤ len + 1
  pub return : len < feed → byte_at text len ≡ 13
  pub plain : len ≡ feed → (k : ℕ) → k + 1 ≡ feed → byte_at text k ≢ 13

no_return : (text : List ℕ) (feed : ℕ) → feed ≤ length text → IsContent text feed
no_return text zero within = record {
  len = 0;
  is = refl;
  least = omega arith;
  most = omega arith;
  return = λ less. absurd (omega arith);
  plain = λ _ k one. absurd (omega arith);
}
no_return text (suc f) within =
    let line = take (suc f) text in
    let long : length line ≡ suc f = length-take-le (suc f) text within in
    let place : suc f - 1 ≡ f = omega arith in
    let last : get_or line f 0 ≡ byte_at text f = get_or-take (suc f) text f 0 (omega arith) ∙ get_or_default text f 0 10 (omega arith) in
    let test : (nat_lt 0 (length line) && get_or line (length line - 1) 0 == 13) ≡ (byte_at text f == 13) =
    ap (λ n. nat_lt 0 n && get_or line (n - 1) 0 == 13) long ∙ ap (λ b. b && get_or line (suc f - 1) 0 == 13) (some_suc f)
    ∙ ap (λ k. get_or line k 0 == 13) place ∙ ap (λ b. b == 13) last in
    elim (cases_eq (byte_at text f) 13) [
      | inl is ↦ record {
        len = f;
        is = cond-true _ _ _ (test ∙ eq-eqb _ 13 is) ∙ ap (λ n. take (n - 1) line) long ∙ ap (λ n. take n line) place ∙ take_less f (suc f) text (omega arith);
        least = omega arith;
        most = omega arith;
        return = λ _. is;
        plain = λ same. absurd (omega arith);
      }
      | inr other ↦ record {
        len = suc f;
        is = cond-false _ _ _ (test ∙ ne_eqb _ 13 other);
        least = omega arith;
        most = omega arith;
        return = λ less. absurd (omega arith);
        plain = λ _ k one is. let here : k ≡ f = omega arith in other (rw here at is);
      }
    ]

-- the first line of a text that isn't empty is its first row
pub first_of : (text : List ℕ) → 0 < length text → (len feed : ℕ) × IsFirstRow text len feed × IsFirstLine text (take len text) (drop (feed + 1) text)
first_of text some =
    let (feed, within, before, found) = feed_in text in
    elim (cases_lt feed (length text)) [
      | inl inside ↦ at_feed feed inside before found
      | inr past ↦
          let end : feed ≡ length text = omega arith in
          let first = first_whole text some (λ k low is. before k (omega arith) (get_or_default text k 10 0 low ∙ is)) in
          let nothing : drop (length text) text ≡ drop (feed + 1) text = drop_all (length text) text (omega arith) ∙ sym (drop_all (feed + 1) text (omega arith)) in (
            length text,
            feed,
            record {
              within = within;
              before = before;
              found = found;
              end = (omega arith, omega arith);
              return = λ less. absurd (omega arith);
              whole = λ less. absurd (omega arith);
              plain = λ same less. absurd (omega arith);
            },
            rw nothing at first,
          )
    ]
  where
    at_feed : (feed : ℕ) → feed < length text → ((k : ℕ) → k < feed → byte_at text k ≢ 10) → byte_at text feed ≡ 10
        → (len feed : ℕ) × IsFirstRow text len feed × IsFirstLine text (take len text) (drop (feed + 1) text)
    at_feed feed inside before found =
        let first = first_at_feed text feed inside (get_or_default text feed 0 10 inside ∙ found) (λ k low is. before k low (get_or_default text k 10 0 (omega arith) ∙ is)) in
        let row = no_return text feed (omega arith) in (
          row.len,
          feed,
          record {
            within = omega arith;
            before = before;
            found = found;
            end = (row.least, row.most);
            return = row.return;
            whole = λ _. inside;
            plain = λ same _. row.plain same;
          },
          rw (ended text feed inside found ∙ row.is) at first,
        )

pub row_is : (text line rest : List ℕ) → IsFirstLine text line rest → first_row text ≡ line
row_is text line rest first = ap (λ l. get_or l 0 []) (first_lines text line rest first)

-- ---- a front of board characters
-- a byte that ends a row is no board character
no_character : (b : ℕ) → (b ≡ 10) ⊎ (b ≡ 13) → is_board_character b ≡ false
no_character b (inl is) = ap is_board_character is
no_character b (inr is) = ap is_board_character is

read : (text : List ℕ) (n b : ℕ) → 1 ≤ b → get_or text n 0 ≡ b → (n < length text) × (byte_at text n ≡ b)
read text n b some is = elim (cases_lt n (length text)) [
  | inl inside ↦ (inside, get_or_default text n 10 0 inside ∙ is)
  | inr past ↦ absurd (let none = get_or_past text n 0 past in omega arith)
]

-- a line feed, or a carriage return and a line feed, or neither
pub past_cases : (text : List ℕ) (n : ℕ) → ((n < length text) × (byte_at text n ≡ 10) × (past_end text n ≡ n + 1))
    ⊎ (((n + 1 < length text) × (byte_at text n ≡ 13) × (byte_at text (n + 1) ≡ 10) × (past_end text n ≡ n + 2))
    ⊎ ((past_end text n ≡ n) × (n < length text → byte_at text n ≢ 10) × (n + 1 < length text → byte_at text n ≡ 13 → byte_at text (n + 1) ≢ 10)))
past_cases text n = elim (cases_Bool (get_or text n 0 == 10)) [
  | inl feed ↦
      let inside = read text n 10 (omega arith) (eqb-true _ 10 feed) in
      inl (inside.0, inside.1, cond-true _ _ _ feed)
  | inr other ↦ elim (cases_Bool (get_or text n 0 == 13 && get_or text (n + 1) 0 == 10)) [
    | inl both ↦
        let (cr, lf) = and_parts _ _ both in
        let here = read text n 13 (omega arith) (eqb-true _ 13 cr) in
        let next = read text (n + 1) 10 (omega arith) (eqb-true _ 10 lf) in
        inr (inl (next.0, here.1, next.1, cond-false _ _ _ other ∙ cond-true _ _ _ both))
    | inr none ↦ inr (inr (
      cond-false _ _ _ other ∙ cond-false _ _ _ none,
      (λ inside is. false≢true (sym other ∙ eq-eqb _ 10 (get_or_default text n 0 10 inside ∙ is))),
      λ inside cr lf. false≢true (sym none ∙ (λ k. eq-eqb _ 13 (get_or_default text n 0 10 (omega arith) ∙ cr) k
          && eq-eqb _ 10 (get_or_default text (n + 1) 0 10 inside ∙ lf) k)),
    ))
  ]
]

module _ (text : List ℕ) (n : ℕ) (has_wall : Bool) (front : IsFront text n has_wall) where
  character : (k : ℕ) → k < n → is_board_character (byte_at text k) ≡ true
  character k low =
      let same : get_or (take n text) k 10 ≡ byte_at text k = get_or-take n text k 10 low in
      let long = length-take-le n text front.within in
      elim (cases_Bool (is_board_character (byte_at text k))) [
        | inl is ↦ is
        | inr other ↦ absurd (false≢true (sym (list_all_at is_board_character (take n text) k 10 (omega arith) (ap is_board_character same ∙ other)) ∙ front.board))
      ]

  not_ends : (k : ℕ) → k < n → (byte_at text k ≢ 10) × (byte_at text k ≢ 13)
  not_ends k low = (
    (λ is. false≢true (sym (no_character _ (inl is)) ∙ character k low)),
    (λ is. false≢true (sym (no_character _ (inr is)) ∙ character k low)),
  )

  -- a front that a line end or the end of the text follows is the first line
  pub front_line : 0 < length text → (past_end text n ≡ n → n ≡ length text) → IsFirstLine text (take n text) (drop (past_end text n) text)
  front_line some ends =
      let (len, feed, row, first) = first_of text some in
      let from : n ≤ feed = elim (cases_lt feed n) [
        | inl less ↦ absurd ((not_ends feed less).0 row.found)
        | inr past ↦ past
      ] in
      let whole : n ≤ len = elim (cases_lt len n) [
        | inl less ↦ absurd ((not_ends len less).1 (row.return (omega arith)))
        | inr past ↦ past
      ] in
      elim (past_cases text n) [
        | inl (inside, here, past) ↦
            let at : feed ≡ n = elim (cases_lt n feed) [
              | inl more ↦ absurd (row.before n more here)
              | inr less ↦ omega arith
            ] in
            let is : len ≡ n = omega (arith, row.end) in
            rw (is, at, sym past) at first
        | inr (inl (inside, here, next, past)) ↦
            let at : feed ≡ n + 1 = elim (cases_lt (n + 1) feed) [
              | inl more ↦ absurd (row.before (n + 1) more next)
              | inr less ↦ elim (cases_eq feed n) [
                | inl same ↦ absurd (let both : 10 ≡ 13 = sym row.found ∙ ap (byte_at text) same ∙ here in omega arith)
                | inr other ↦ omega arith
              ]
            ] in
            let is : len ≡ n = elim (cases_eq len feed) [
              | inl same ↦ absurd (row.plain same (omega arith) n (omega arith) here)
              | inr other ↦ omega (arith, row.end)
            ] in
            let two : feed + 1 ≡ n + 2 = omega arith in
            rw (is, two, sym past) at first
        | inr (inr (past, _, _)) ↦
            let end = ends past in
            let at : feed ≡ n = omega (arith, row.within) in
            let is : len ≡ n = elim (cases_lt len feed) [
              | inl less ↦ absurd (let inside = row.whole less in omega arith)
              | inr more ↦ omega (arith, row.end)
            ] in
            let nothing : drop (feed + 1) text ≡ drop (past_end text n) text =
            drop_all (feed + 1) text (omega arith) ∙ sym (drop_all (past_end text n) text (omega arith)) in
            rw (is, nothing) at first
      ]

  pub front_board : (rest : List ℕ) → IsFirstLine text (take n text) rest → has_wall ≡ true → IsBoardLine (first_row text)
  front_board rest first wall = rw (row_is _ _ _ first) (ap (λ b. b && list_all is_board_character (take n text)) (sym front.wall ∙ wall) ∙ front.board)

  -- another first line is text
  pub front_text : 0 < length text → (has_wall ≡ false) ⊎ ((past_end text n ≡ n) × (n < length text)) → IsText (first_row text)
  front_text some why =
      let (len, feed, row, first) = first_of text some in
      rw (row_is _ _ _ first) (elim (cases_Bool (list_all is_board_character (take len text))) [
        | inl all ↦
            let least : n ≤ len = elim (cases_lt len n) [
              | inl less ↦ absurd (elim (cases_lt len feed) [
                | inl before ↦ (not_ends len less).1 (row.return before)
                | inr at ↦ let same : len ≡ feed = omega (arith, row.end) in (not_ends len less).0 (ap (byte_at text) same ∙ row.found)
              ])
              | inr more ↦ more
            ] in
            let most : len ≤ n = elim (cases_lt n len) [
              | inl less ↦ absurd (
                  let same = get_or-take len text n 10 less in
                  let long = length-take-le len text (omega (arith, row.within, row.end)) in
                  false≢true (sym (list_all_at is_board_character (take len text) n 10 (omega arith) (ap is_board_character same ∙ front.ends)) ∙ all))
              | inr more ↦ more
            ] in
            let is : len ≡ n = omega arith in
            rw is (elim why [
              | inl none ↦ ap (λ b. b && list_all is_board_character (take n text)) (sym front.wall ∙ none)
              | inr (past, inside) ↦ absurd (elim (past_cases text n) [
                | inl (_, _, more) ↦ omega (arith, sym past ∙ more)
                | inr (inl (_, _, _, more)) ↦ omega (arith, sym past ∙ more)
                | inr (inr (_, no_feed, no_return)) ↦ elim (cases_lt len feed) [
                  | inl before ↦
                      let next : feed ≡ n + 1 = omega (arith, row.end) in
                      no_return (omega (arith, row.whole before)) (rw is at (row.return before)) (rw next at row.found)
                  | inr at ↦ let same : feed ≡ n = omega (arith, row.end) in no_feed inside (rw same at row.found)
                ]
              ])
            ])
        | inr other ↦ ap (λ b. list_any is_wall (take len text) && b) other ∙ and-false _
      ])

-- taking one more element of a list takes the first one of the rest
pub next_row : {A : Type 0} (xs : List A) (n : ℕ) (x : A) (rest : List A) → drop n xs ≡ x ∷ rest
    → (n < length xs) × (take (n + 1) xs ≡ take n xs ++ x ∷ []) × (drop (n + 1) xs ≡ rest)
next_row xs n x rest e =
    let inside : n < length xs = grind (arith, drop_all, cases_lt) in
    let both : x ∷ rest ≡ get_or xs n x ∷ drop (n + 1) xs = sym e ∙ drop_more xs n x inside in
    grind (arith, take_more)
