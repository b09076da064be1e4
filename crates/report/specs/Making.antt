-- What is found for a level, and the drafts of made records, which are written at the end.
use Rattle.std.specs.Prelude.{◌≡◌, ℕ, Bool, true, false, List, ◌++◌, length}
use Rattle.std.specs.List.{flat_map, list_any}
use Rattle.board.specs.Board.{IsWellFormed}
use Rattle.board.specs.Game.{Level}
use Rattle.board.specs.Legal.{IsBoardOf}
use Rattle.answers.specs.Canonical.{header_line, list_lines, record_text, some_zone, text_with, zone_lines}
use Rattle.answers.specs.declared.record.MadeRecord.{MadeRecord}
use Rattle.maker.specs.Made.{IsFound}
use Rattle.maker.specs.declared.making.Found.{Found}
use Rattle.maker.specs.declared.making.Found.TheVariants as found
use Rattle.report.specs.declared.making.Draft.{Draft}

-- the certificate is found for the rows' board
pub record IsFoundFor (rows : List (List ℕ)) (certificate : Found) : Type 0 where
  pub level : Level
  pub legal : IsBoardOf rows level
  pub formed : IsWellFormed level
  pub is : IsFound level certificate

-- the kind line and the body lines of a certificate that was found
abbrev pub found_lines : Found → List (List ℕ)
found_lines (found.List dead frozen) = list_lines dead.items frozen.items
found_lines (found.Zone cells) = zone_lines cells.items

-- whether a zone was found
abbrev pub is_zone : Found → Bool
is_zone (found.List dead frozen) = false
is_zone (found.Zone cells) = true

-- the text of a draft
abbrev pub draft_text : Draft → List ℕ
draft_text draft = text_with draft.level (found_lines draft.found)

-- the header and the texts of the drafts
abbrev pub drafts_text : List Draft → List ℕ
drafts_text drafts = header_line (list_any (λ d. is_zone d.found) drafts) ++ flat_map draft_text drafts

-- the draft is of the level with this number
pub record IsDraftFor (n : ℕ) (rows : List (List ℕ)) (draft : Draft) : Type 0 where
  pub number : draft.level ≡ n
  pub found : IsFoundFor rows draft.found

-- the drafts are of these records, in order
pub record AreDraftsOf (records : List MadeRecord) (drafts : List Draft) : Type 0 where
  pub texts : flat_map draft_text drafts ≡ flat_map record_text records
  pub zones : list_any (λ d. is_zone d.found) drafts ≡ some_zone records
  pub count : length drafts ≡ length records
