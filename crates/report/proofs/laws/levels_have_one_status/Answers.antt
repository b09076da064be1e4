use Rattle.report.proofs.OneReport.{AreLaws, one_status}
use Rattle.report.proofs.laws.levels_have_one_status.Goals as goal

laws : goal.After-zones_have_one_first_fault → AreLaws
laws c = record {
  one_board = c.rows_have_one_board.ensures.same;
  not_refused = c.rows_have_one_board.ensures.refused;
  one_refusal = c.rows_have_one_board.ensures.refusal;
  one_tally = c.texts_come_to_one_thing.ensures.tally;
  one_fault = c.texts_come_to_one_thing.ensures.fault;
  no_fault = c.texts_come_to_one_thing.ensures.none;
  one_list_fault = c.lists_have_one_first_fault.ensures;
  no_list_fault = c.closed_lists_have_no_fault.ensures;
  one_zone_fault = c.zones_have_one_first_fault.ensures;
  no_zone_fault = c.refuting_zones_have_no_fault.ensures;
}

pub returns : goal.returns
returns c = one_status (laws c)
