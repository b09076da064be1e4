-- The check accepts what is made for a level, and a text can spell it.
use Rattle.std.proofs.Common.{inl, inr}
use Rattle.board.specs.Game.{Level}
use Rattle.board.specs.Board.{IsWellFormed}
use Rattle.answers.specs.Grammar.{said_zone}
use Rattle.answers.specs.RoundTrip.{IsLawfulBody}
use Rattle.maker.specs.Made.{IsAcceptedMade, IsMade, body_of}
use Rattle.maker.specs.declared.making.Made.{Made}
use Rattle.maker.specs.declared.making.Made.TheVariants.{Patterns, Zone}
use Rattle.maker.proofs.Accepting.{dead_lists_closed, frozen_lists_closed}
use Rattle.maker.proofs.MadeLists.{said_lawful}
use Rattle.maker.proofs.MadeZones.{line_lawful, line_refutes}

module _ (level : Level) (formed : IsWellFormed level) where
  pub made_accepted : (made : Made) → IsMade level made → IsAcceptedMade level made
  made_accepted (Patterns patterns) (inl dead) = dead_lists_closed level _ formed dead
  made_accepted (Patterns patterns) (inr frozen) = frozen_lists_closed level _ formed frozen
  made_accepted (Zone zone) is = line_refutes level formed (said_zone zone) is.zone

  pub made_lawful : (made : Made) → IsMade level made → IsLawfulBody (body_of made)
  made_lawful (Patterns patterns) is = said_lawful level formed patterns.items is
  made_lawful (Zone zone) is = line_lawful level formed (said_zone zone) is.zone
