use Rattle.std.{proofs.Common.◌≡◌, specs.FinSet.len}
use Rattle.answers.specs.Grammar.{said_zone}
use Rattle.certificates.specs.CellLists.{cells_of}
use Rattle.certificates.specs.Zone.{IsRefuting}
use Rattle.closure.{specs.FirstFault.IsFirstZoneFault, proofs.ZoneCounts.refuting_unsolvable}
use Rattle.closure.{specs.declared.fault.ZoneFault.TheVariants.Memory, proofs.FirstLines.first_unless, proofs.FirstLines.where_ok}
use Rattle.closure.proofs.OneFault.{one_zone_fault, refuting_no_fault, zone_memory_or}
use Rattle.closure.proofs.zone.check_zone.Goals as goal

pub returns-clause-first : goal.returns-clause-first
returns-clause-first g c =
    let said = said_zone c.args.zone.now in
    first_unless Memory zone_memory_or (IsFirstZoneFault c.args.board.now said) (IsRefuting c.args.board.now (cells_of said.cells))
    (refuting_no_fault c.args.board.now said) (one_zone_fault c.args.board.now said)
    (λ accepted. accepted.cells ≡ len (cells_of said.cells)) c.check_by_counts.result c.check_by_counts.ensures.ok c.check_by_counts.ensures.exact

pub returns-clause-unsolvable : goal.returns-clause-unsolvable
returns-clause-unsolvable g c =
    let zone = cells_of (said_zone c.args.zone.now).cells in
    where_ok (λ accepted. accepted.cells ≡ len zone) c.check_by_counts.result
    (refuting_unsolvable c.args.board.now zone c.check_by_counts.ensures.formed) c.check_by_counts.ensures.ok
