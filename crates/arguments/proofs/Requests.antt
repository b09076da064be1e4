-- What a subcommand's name and texts ask for.
-- Each argument has one text, and a text holds one number. The names of the subcommands differ in their first letters. So
-- they ask for at most one request.
use Rattle.std.proofs.Common.{◌≡◌, ℕ, option_map, List, Option, Some, None, ◌∷◌, arith}
use Rattle.clap.specs.Words.{Row, Text}
use Rattle.arguments.specs.Command.{Given, Request, audit, make, dead, GivesRequest, IsNumberIn, given_of}

same_text : (o : Option Text) (a b : Text) → o ≡ Some a → o ≡ Some b → a ≡ b
same_text o a b h k = cc

same_number : (o : Option Text) (a b : Text) (m n : ℕ) → o ≡ Some a → o ≡ Some b → IsNumberIn a m → IsNumberIn b n → m ≡ n
same_number o a b m n h k one other = search (same_text)

-- names with different first letters differ
first_letter : (name : Text) (a b : ℕ) (more rest : Text) → name ≡ a ∷ more → name ≡ b ∷ rest → a ≡ b
first_letter name a b more rest h k = cc

pub given_once : (given : Given) (one other : Request) → GivesRequest given one → GivesRequest given other → one ≡ other
given_once given (audit a b) (audit c d) h k = search (same_text)
given_once given (audit a b) (make c) h k = search (first_letter)
given_once given (audit a b) (dead c n) h k = search (first_letter)
given_once given (make a) (audit b c) h k = search (first_letter)
given_once given (make a) (make b) h k = search (same_text)
given_once given (make a) (dead b n) h k = grind (arith, first_letter)
given_once given (dead a m) (audit b c) h k = search (first_letter)
given_once given (dead a m) (make b) h k = grind (arith, first_letter)
given_once given (dead a m) (dead b n) h k = search (same_text, same_number)

-- if clap finds a subcommand, its texts are the texts of its name and its rows
pub met : (found : Option (Text × List Row)) (name : Text) (rows : List Row) → Some name ≡ option_map (λ p. p.0) found
    → Some rows ≡ option_map (λ p. p.1) found → option_map given_of found ≡ Some (given_of (name, rows))
met None name rows e f = cc
met (Some p) name rows e f = search
