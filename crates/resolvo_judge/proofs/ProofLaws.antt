-- What a proof shows of the lines that it names.
use Rattle.std.proofs.Common.{◌≡◌, ℕ, suc, true, List, [], ◌∷◌, sym, ap, ◌∙◌, inl, inr, eqb, arith}
use Rattle.std.specs.Prelude.{unwrap_or, Contains}
use Rattle.std.proofs.lemmas.Bool.{false≢true, or_cases, eqb-true}
use Rattle.resolvo_text.specs.Line.{Line}
use Rattle.resolvo_text.specs.Matches.{Set}
use Rattle.resolvo_catalogue_core.specs.Sets.{IsSingle, AreRefuted}
use Rattle.resolvo_pool_core.specs.OnePass.{clause_true}
use Rattle.resolvo_report.specs.Value.{Step}
use Rattle.resolvo_checker.specs.StepClauses.{clause_of}
use Rattle.resolvo_checker.specs.AtomValues.{value_of}
use Rattle.resolvo_checker.specs.Proof.{IsProof, is_named, ends_empty, ObeysLines, ObeysTested, IsTrueIn}
use Rattle.resolvo_checker.proofs.Sets.{all_at}
use Rattle.resolvo_checker.proofs.ProofTrue.{place_given, proof_true, proof_refutes}

pub named_in : (lines : List ℕ) (n : ℕ) → is_named lines n ≡ true → Contains lines n
named_in [] n h = absurd (false≢true h)
named_in (m ∷ ms) n h = elim (or_cases (eqb m n) (is_named ms n) h) [
  | inl e ↦ (0, omega arith, eqb-true m n e)
  | inr e ↦ let c = named_in ms n e in (suc c.0, omega (arith, c.1), c.2)
]

named : (catalogue request : List Line) (catalogue_lines request_lines : List ℕ) (set : Set) → ObeysLines catalogue request catalogue_lines request_lines set → ObeysTested catalogue request (is_named catalogue_lines) (is_named request_lines) set
named catalogue request catalogue_lines request_lines set obeys = record {
  in_catalogue = λ n h. obeys.in_catalogue n (named_in catalogue_lines n h);
  in_request = λ n h. obeys.in_request n (named_in request_lines n h);
}

pub true_in : (catalogue request : List Line) (catalogue_lines request_lines : List ℕ) (steps : List Step) (set : Set) → IsProof catalogue request (is_named catalogue_lines) (is_named request_lines) steps → IsSingle catalogue set → ObeysLines catalogue request catalogue_lines request_lines set → IsTrueIn catalogue request set steps
true_in catalogue request catalogue_lines request_lines steps set proof single obeys = record {
  place = place_given steps;
  each = λ n s clause at is.
      sym (ap (λ o. clause_true (value_of set (place_given steps)) (unwrap_or o [])) is)
      ∙ all_at (λ x. clause_true (value_of set (place_given steps)) (unwrap_or (clause_of catalogue request x) [])) steps n s
      (proof_true catalogue request (is_named catalogue_lines) (is_named request_lines) steps proof set single (named catalogue request catalogue_lines request_lines set obeys)) at;
}

pub refutes : (catalogue request : List Line) (catalogue_lines request_lines : List ℕ) (steps : List Step) → IsProof catalogue request (is_named catalogue_lines) (is_named request_lines) steps → ends_empty steps ≡ true → AreRefuted catalogue request catalogue_lines request_lines
refutes catalogue request catalogue_lines request_lines steps proof ends set single in_catalogue in_request =
    proof_refutes catalogue request (is_named catalogue_lines) (is_named request_lines) steps proof ends set single
    (named catalogue request catalogue_lines request_lines set (record { in_catalogue = in_catalogue; in_request = in_request }))
