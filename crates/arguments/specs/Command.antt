-- What the program's words ask for: the plain way to spell a request, and how clap reads words.
-- `Text` is a word's bytes. A parser of clap is an `App`, and what it found for a subcommand are `Row`s.
use Rattle.std.specs.Prelude.{ℕ, ◌≤◌, List, [], ◌∷◌, ◌≡◌, ◌≢◌, Option, Some, true, pos, codes, decimal, option_map}
use Rattle.std.specs.Str.Parse.{IsNumeral, digits_value, without_leading_plus}
use Rattle.clap.specs.Words.{App, Rule, Row, Text, new_app, new_rule, with_rule, with_subcommand, first_of, one_of, subcommand_of, fault_of}
use Rattle.clap.specs.declared.builder.action.ArgAction.TheVariants.{Set}
use Rattle.clap.specs.declared.builder.value_parser.ValueParser.TheVariants.{Signed}
use Rattle.arguments.specs.declared.command.Command.{Command}
use Rattle.arguments.specs.declared.command.Command.TheVariants.{Audit, Make, Dead}

-- ---- requests

-- a request is for a report on levels and answers, for answers made for levels, or for the map of the level with a number; files are
-- named by their paths
pub data Request : Type 0 where
  audit : Text → Text → Request
  make : Text → Request
  dead : Text → ℕ → Request

-- a command asks for this request
abbrev pub request_of : Command → Request
request_of (Audit levels answers) = audit levels.now answers.now
request_of (Make levels) = make levels.now
request_of (Dead levels n) = dead levels.now n

-- the word is no option: it isn't empty and doesn't begin with a hyphen
abbrev pub IsPlainWord : Text → Type 0
IsPlainWord [] = ⊥
IsPlainWord (first ∷ rest) = first ≢ 45

-- a level has a number from 1 to 10000
abbrev pub IsLevelNumber : ℕ → Type 0
IsLevelNumber n = (1 ≤ n) × (n ≤ 10000)

-- the words are the program's name, that of the command, and its arguments; a number is decimal, with no leading zero
abbrev pub SpellsRequest : List Text → Request → Type 0
SpellsRequest words (audit levels answers) = (program : Text)
    × (words ≡ program ∷ codes "audit" ∷ levels ∷ answers ∷ []) × IsPlainWord levels × IsPlainWord answers
SpellsRequest words (make levels) = (program : Text) × (words ≡ program ∷ codes "make" ∷ levels ∷ []) × IsPlainWord levels
SpellsRequest words (dead levels n) = (program : Text)
    × (words ≡ program ∷ codes "dead" ∷ levels ∷ decimal n ∷ []) × IsPlainWord levels × IsLevelNumber n

-- ---- the program's parser

-- the argument is a required text
abbrev pub text_rule : Text → Rule
text_rule id = record (new_rule id) { required = true; action = Some Set; value_names = 1 }

-- the argument is the required number of a level
abbrev pub number_rule : Text → Rule
number_rule id = record (text_rule id) { parser = Some (Signed (pos 1) (pos 10000)) }

-- the subcommand `audit` has two arguments, the files of levels and of answers
abbrev pub audit_app : App
audit_app = with_rule (with_rule (new_app (codes "audit")) (text_rule (codes "levels"))) (text_rule (codes "answers"))

-- the subcommand `make` has one argument, the file of levels
abbrev pub make_app : App
make_app = with_rule (new_app (codes "make")) (text_rule (codes "levels"))

-- the subcommand `dead` has two arguments, the file of levels and the number of a level
abbrev pub dead_app : App
dead_app = with_rule (with_rule (new_app (codes "dead")) (text_rule (codes "levels"))) (number_rule (codes "n"))

-- the program needs a subcommand, and has a version
abbrev pub bare_app : App
bare_app = let a = new_app (codes "sokoaudit") in record a { top = record a.top { subcommand_required = true; has_version = true } }

-- the program has the three subcommands
abbrev pub program_app : App
program_app = with_subcommand (with_subcommand (with_subcommand bare_app audit_app.top) make_app.top) dead_app.top

-- ---- what clap finds

-- clap finds a subcommand's name, the texts of its arguments, and the text from which it reads a number
pub record Given : Type 0 where
  pub name : Text
  pub levels : Option Text
  pub answers : Option Text
  pub number : Option Text

-- the rows of a subcommand hold these texts
abbrev pub given_of : Text × List Row → Given
given_of p = record {
  name = p.0;
  levels = first_of (codes "levels") p.1;
  answers = first_of (codes "answers") p.1;
  number = one_of (codes "n") p.1;
}

-- the text is the number of a level: decimal digits, which a plus may precede
abbrev pub IsNumberIn : Text → ℕ → Type 0
IsNumberIn text n = IsNumeral 10 (without_leading_plus text) × (digits_value 10 (without_leading_plus text) ≡ n) × IsLevelNumber n

-- the subcommand, its texts and its number are the request's
abbrev pub GivesRequest : Given → Request → Type 0
GivesRequest given (audit levels answers) = (given.name ≡ codes "audit") × (given.levels ≡ Some levels) × (given.answers ≡ Some answers)
GivesRequest given (make levels) = (given.name ≡ codes "make") × (given.levels ≡ Some levels)
GivesRequest given (dead levels n) = (given.name ≡ codes "dead") × (given.levels ≡ Some levels)
    × (text : Text) × (given.number ≡ Some text) × IsNumberIn text n

-- the subcommand that clap finds in the words asks for the request
abbrev pub ClapFinds : List Text → Request → Type 0
ClapFinds words request = (given : Given) × (option_map given_of (subcommand_of program_app words) ≡ Some given) × GivesRequest given request

-- the words ask for the request: the parser finds no fault in them, and finds the request
abbrev pub AsksFor : List Text → Request → Type 0
AsksFor words request = (fault_of program_app words ≡ []) × ClapFinds words request
