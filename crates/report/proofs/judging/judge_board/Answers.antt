use Rattle.std.proofs.Common.{[], sym}
use Rattle.answers.specs.Body.{LetterLines}
use Rattle.answers.specs.Certificates.{certificate_body}
use Rattle.answers.specs.Reading.{entry_of}
use Rattle.answers.proofs.BodyLines.{says_one_body}
use Rattle.report.specs.Status.{missing}
use Rattle.report.proofs.SolutionPieces.{says_pieces}
use Rattle.report.proofs.judging.judge_board.Goals as goal

pub returns-in_default-clause-says : goal.returns-in_default-clause-says
returns-in_default-clause-says g c = λ rows is. rw c.in_default.is (missing is)

pub returns-in-Some-certificate-clause-says : goal.returns-in-Some-certificate-clause-says
returns-in-Some-certificate-clause-says g c =
    let says = rw c.in-Some-certificate.is at c.certificate.ensures.some in
    rw (c.in-Some.is, sym (says_one_body c.in-Some.record.now (certificate_body [] c.in-Some-certificate.lines) says)) c.judge_certificate.ensures.says

pub returns-in_ok-letters-in-None-clause-says : goal.returns-in_ok-letters-in-None-clause-says
returns-in_ok-letters-in-None-clause-says g c =
    let record_text = c.in-Some.record.now in
    let (lines, says) = rw c.in-None.is at c.certificate.ensures.none in
    rw c.in-Some.is (says_pieces c.judge_solution.result c.args.board.now lines c.deref.result.now (entry_of record_text).body
    (says_one_body record_text (LetterLines lines) says)
    (rw c.deref.ensures.value (c.in_ok-letters-in-None.ensures.letters lines says)) c.judge_solution.ensures.says)
