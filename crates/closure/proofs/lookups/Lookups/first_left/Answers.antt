use Rattle.std.proofs.Common.{◌∙◌, refl, sym, ap, subst}
use Rattle.std.specs.Prelude.{◌↔◌, slice_index}
use Rattle.cellset.specs.{CellSet.Has, declared.cell.Cell.Cell}
use Rattle.certificates.specs.CellLists.{cells_in}
use Rattle.certificates.specs.Pattern.{InPatternRegion, IsLawful}
use Rattle.closure.specs.{Arena.pattern_at, Groups.boxes_of, Groups.list_of, Component.IsFreeOf}
use Rattle.closure.proofs.{Arenas.listed_at, FirstLeft.chosen, FirstLeft.first_of, Grouped.line_boxes}
use Rattle.closure.proofs.lookups.Lookups.first_left.Goals as goal

pub find_line-whole-requires : goal.find_line-whole-requires
find_line-whole-requires g c = record {
  region = c.requires.are.region ∙ sym c.requires.are.free;
  on = λ q has. rw c.requires.are.free (c.requires.tables.formed.room q ((c.requires.free.members q).0 has).0).0;
}

pub returns-clause-are : goal.returns-clause-are
returns-clause-are g c = record {
  buckets = c.requires.are.buckets;
  place = c.requires.are.place;
  free = rw c.find_line-whole.ensures.same.0 c.requires.are.free;
  region = c.find_line-whole.ensures.same.1 ∙ c.requires.are.region;
  away = c.requires.are.away;
  here = c.requires.are.here;
}

pub returns-clause-exact : goal.returns-clause-exact
returns-clause-exact g c =
    let level = c.args.tables.now.board.now in
    let groups = c.args.tables.now.groups in
    let grouped = c.requires.tables.grouped in
    let j = c.args.line in
    let lt = c.requires.line in
    let p = c.pattern.ensures.pattern in
    let rest = rw (← c.requires.group) at c.requires.rest in
    let left = c.args.self.now.left.items in
    let same = line_boxes level groups grouped (slice_index groups.of.items j) j lt refl in
    let own = ap (λ x. x.boxes) p ∙ (same ∙ ap (λ k. cells_in (boxes_of groups k)) c.requires.group) in
    let in_line : (q : Cell) → Has c.found.result.now.members q ↔ InPatternRegion level (pattern_at (list_of groups) j) q = λ q.
    subst (λ x. Has c.found.result.now.members q ↔ InPatternRegion level x q) p (chosen c.find_line-whole.result _ _ _ q _ c.found.ensures.members
    (c.find_line-whole.ensures.exact level c.requires.tables.formed (subst (IsLawful level) (sym p) (c.requires.tables.lawful _ (listed_at groups.arena j lt)))
    (subst (λ b. IsFreeOf level b c.args.self.now.flood.free) (sym own) c.requires.free) q)) in
    first_of level groups grouped j lt left rest c.found.result.now.members in_line c.least_of.result (rw c.deref.ensures.value at c.least_of.ensures.only)
    (rw c.deref.ensures.value at c.least_of.ensures.least)
