-- A solution played in pieces of its text.
-- LF and CR are blanks, so a text with other ends of lines has the same letters, and what a text comes to depends on its
-- letters alone.
use Rattle.std.proofs.Common.{◌≡◌, ℕ, ◌||◌, Bool, true, false, not, cond, List, [], ◌∷◌, Some, refl, sym, ap, subst, ◌∙◌, ⊎_elim}
use Rattle.std.specs.Prelude.{filter, Result, Ok, Err, IfOk}
use Rattle.std.specs.Borrow.{Bor}
use Rattle.std.proofs.lemmas.Bool.{cases_Bool, cond-true, cond-false}
use Rattle.board.specs.Game.{Level}
use Rattle.board.specs.Legal.{IsBoardOf}
use Rattle.play.specs.Spelling.{letters}
use Rattle.play.specs.Solution.{Solves}
use Rattle.play.specs.FirstFault.{EndsUnsolved, FailsAt, IsFirstSolutionFault}
use Rattle.play.specs.declared.tally.Tally.{Tally}
use Rattle.play.specs.declared.fault.ReplayFault.{ReplayFault}
use Rattle.play.specs.declared.fault.ReplayFault.TheVariants.{Move, Unsolved, Memory}
use Rattle.answers.specs.Body.{Body, LetterLines}
use Rattle.answers.specs.Pieces.{ArePiecesOf, unbroken}
use Rattle.report.specs.Status.{Says}
use Rattle.report.specs.declared.status.Status.{Status}

-- filtering by the second test first changes nothing, if what fails the second test fails the first
filter_twice : (p q : ℕ → Bool) → ((b : ℕ) → q b ≡ false → p b ≡ false) → (bs : List ℕ) → filter p bs ≡ filter p (filter q bs)
filter_twice p q fails [] = refl
filter_twice p q fails (b ∷ bs) = ⊎_elim
    (λ yes. ap (λ l. cond (p b) (b ∷ l) l) (filter_twice p q fails bs) ∙ ap (filter p) (sym (cond-true (q b) (b ∷ filter q bs) (filter q bs) yes)))
    (λ no. cond-false (p b) (b ∷ filter p bs) (filter p bs) (fails b no) ∙ filter_twice p q fails bs
    ∙ ap (filter p) (sym (cond-false (q b) (b ∷ filter q bs) (filter q bs) no)))
    (cases_Bool (q b))

one_of_three : (x y z : Bool) → not z ≡ false → not (x || (y || z)) ≡ false
one_of_three true y z e = refl
one_of_three false true z e = refl
one_of_three false false z e = e

letters_unbroken : (text : List ℕ) → letters text ≡ letters (unbroken text)
letters_unbroken text = search (filter_twice, one_of_three)

pub same_letters : (a b : List ℕ) → unbroken a ≡ unbroken b → letters a ≡ letters b
same_letters a b e = letters_unbroken a ∙ ap letters e ∙ sym (letters_unbroken b)

-- ---- texts of the same letters

pub solves_same : (level : Level) (a b : List ℕ) (tally : Tally) → letters a ≡ letters b → Solves level a tally → Solves level b tally
solves_same level a b tally e h = record {
  directions = h.directions;
  end = h.end;
  spelled = rw e at h.spelled;
  played = h.played;
  solved = h.solved;
  counts = h.counts;
}

pub fault_same : (level : Level) (a b : List ℕ) (fault : ReplayFault) → letters a ≡ letters b → IsFirstSolutionFault level a fault
    → IsFirstSolutionFault level b fault
fault_same level a b (Move n why) e h = subst (λ text. FailsAt level text n why) e h
fault_same level a b (Unsolved n) e h = subst (λ text. EndsUnsolved level text n) e h
fault_same level a b Memory e h = h

-- ---- the status by the pieces of some lines

pub says_pieces : {E : Type 0} (r : Result Status E) (level : Level) (lines : List (List ℕ)) (pieces : List (Bor (List ℕ))) (body : Body)
    → LetterLines lines ≡ body → ArePiecesOf lines pieces
    → IfOk r (λ status. (rows lines : List (List ℕ)) → IsBoardOf rows level → ArePiecesOf lines pieces → Says rows (Some (LetterLines lines)) status)
    → IfOk r (λ status. (rows : List (List ℕ)) → IsBoardOf rows level → Says rows (Some body) status)
says_pieces (Ok status) level lines pieces body e are h = λ rows is. subst (λ b. Says rows (Some b) status) e (h rows lines is are)
says_pieces (Err e) level lines pieces body same are h = tt
