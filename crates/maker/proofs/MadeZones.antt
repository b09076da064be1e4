-- The check accepts the zone that is made, and a text can spell it, since it has a cell and lies on the grid.
use Rattle.std.proofs.Common.{◌≡◌, ◌<◌, List, [], ◌∷◌, refl, ap, arith}
use Rattle.std.specs.FinSet as set
use Rattle.std.specs.FinSet.{items, len-empty}
use Rattle.std.specs.List.{Contains}
use Rattle.cellset.specs.Cell.{cell_cmp}
use Rattle.cellset.specs.CellSet.{Cells, Has}
use Rattle.cellset.specs.declared.cell.Cell.{Cell}
use Rattle.cellset.proofs.Members.{has_item, item_has, has_empty, same_members}
use Rattle.board.specs.Game.{Level}
use Rattle.board.specs.Board.{IsWellFormed}
use Rattle.answers.specs.declared.pattern.Coord.{Coord}
use Rattle.answers.specs.Grammar.{IsZone}
use Rattle.answers.specs.Body.{ZoneLine}
use Rattle.certificates.specs.CellLists.{cells_of}
use Rattle.certificates.proofs.Sets.{has_intersection}
use Rattle.certificates.specs.Zone.{IsRefuting}
use Rattle.maker.specs.Zones.{IsLeastZone}
use Rattle.maker.specs.Made.{IsListOf, IsLeastZoneLine}
use Rattle.maker.proofs.Listing.{is_cell_list}
use Rattle.maker.proofs.OneZone.{least_zones_refute}

-- a set that is not empty has a member
some_member : (s : Cells) → 0 < set.len s → (c : Cell) × Has s c
some_member s more = first (items s) refl
  where
    first : (cells : List Cell) → items s ≡ cells → (c : Cell) × Has s c
    first [] is =
        let empty : s ≡ set.empty = same_members s set.empty (λ c h. none c (rw is at (has_item s c h)))
        (λ c h. has_empty c h) in
        let no_member = ap set.len empty in
        let none_there = len-empty cell_cmp in
        absurd (omega arith)
      where
        none : (c : Cell) → Contains [] c → Has set.empty c
        none c (k, within, at) = absurd (omega arith)
    first (c ∷ cells) is = (c, item_has s c (rw is (0, omega arith, refl)))

module _ (level : Level) (formed : IsWellFormed level) (zone : Cells) (least : IsLeastZone level zone) (coords : List Coord) (list : IsListOf zone coords) where
  pub zone_refutes : IsRefuting level (cells_of coords)
  zone_refutes = grind (arith, least_zones_refute)

  pub zone_lawful : (line : ZoneLine) → line.cells ≡ coords → IsZone line
  zone_lawful line is =
      let refuting = zone_refutes in
      let more = refuting.more in
      let (box, in_both) = some_member (set.intersection (cells_of coords) level.boxes) (omega arith) in
      rw is (is_cell_list level.shape formed.sides coords refuting.board list.order box (has_intersection (cells_of coords) level.boxes box in_both).0)

pub line_refutes : (level : Level) → IsWellFormed level → (line : ZoneLine) → IsLeastZoneLine level line → IsRefuting level (cells_of line.cells)
line_refutes level formed line made = zone_refutes level formed made.zone made.least line.cells made.cells

pub line_lawful : (level : Level) → IsWellFormed level → (line : ZoneLine) → IsLeastZoneLine level line → IsZone line
line_lawful level formed line made = search (zone_lawful)
