-- The solver's answer, as a report that the judge accepts.
use Rattle.std.proofs.Common.{◌≡◌, Bor, ℕ, ◌<◌, ◌≤◌, Bool, List, [], ◌∷◌, map, length, None, Some, Result, Ok, Err, Vec, Global, refl, sym, subst, ◌∙◌, arith}
use Rattle.std.specs.Prelude.{Contains, IfOk}
use Rattle.std.specs.List.{AllByRecursion, AllZip}
use Rattle.resolvo_text.specs.Line.{Line}
use Rattle.resolvo_catalogue_core.specs.Grammar.{AreRequestLines}
use Rattle.resolvo_catalogue_core.specs.Listed.{listed, members}
use Rattle.resolvo_catalogue_core.specs.Questions.{ReadRequest, AreAll, IsWish, LineIs}
use Rattle.resolvo_catalogue_core.specs.declared.rule.VersionNo.{VersionNo}
use Rattle.resolvo_catalogue_core.specs.Answers.{Answer}
use Rattle.resolve_order.specs.Order as order
use Rattle.resolve_order.specs.Order.{AreTurns}
use Rattle.resolve_order.specs.View.{turns_of}
use Rattle.resolvo_judge.specs.Refusal.{answer_of}
use Rattle.resolve_order.specs.declared.entry.Turn.{Turn}
use Rattle.resolve_order.specs.declared.entry.Turn.TheVariants.{Chose}
use Rattle.std.proofs.lemmas.Option.{same_Some}
use Rattle.resolvo_pool_core.specs.declared.requirement.Requirement.{Requirement}
use Rattle.resolvo_pool_core.specs.RuleKeeping.{Rules}
use Rattle.resolvo_sat.specs.RuleClauses.{IsExact}
use Rattle.resolvo_catalogue.specs.Ids.{Ids, SolvableId}
use Rattle.resolvo_terms.specs.Terms.{NameId}
use Rattle.resolvo_catalogue.specs.KeptSets.{root_of}
use Rattle.resolvo_catalogue.specs.Known.{name_of}
use Rattle.resolvo_catalogue.specs.Provider.{Provider, packages_of}
use Rattle.resolvo_catalogue.specs.Over.{IsOver, AreAsked}
use Rattle.resolvo_catalogue.specs.declared.provider.RequestIds.{RequestIds}
use Rattle.resolvo_proof.specs.Trimmed as trimming
use Rattle.resolvo_proof.specs.Trimmed.{Names, IsLast, IsTrimmed, IsTrimmedTo, IsTrimmedWith, StaysProof}
use Rattle.resolvo_proof.specs.Proof.{EndsEmpty, IsProof, IsStep}
use Rattle.resolvo_proof.specs.Drawn.{HaveOneSigns}
use Rattle.resolvo_proof.specs.Places.{HaveOnePlace}
use Rattle.resolvo_proof.specs.declared.step.ProofRule.{ProofRule}
use Rattle.resolvo_proof.specs.declared.step.ProofStep.{ProofStep}
use Rattle.resolvo_proof.specs.declared.step.ProofStep.TheVariants.{Rule, Derived}
use Rattle.resolvo_graph.specs.Message.{IsMessage}
use Rattle.resolvo_report.specs.Value.{Step, Message, Report}
use Rattle.resolvo_report.specs.Text.{HasText, report_text}
use Rattle.resolvo_report.specs.View.{steps_of}
use Rattle.resolvo_judge.specs.Judgement.{IsUpheld}
use Rattle.resolvo_judge.proofs.MessageLaws.{upheld_with}
use Rattle.resolvo_proof.specs.Offered.{offered_by}
use Rattle.resolvo_proof.specs.declared.offers.Offers.{Offers}
use Rattle.resolvo_proof.specs.Draw.{conflict_drawing}
use Rattle.resolvo_proof.specs.Order.{conflict_rules, requirements_in}
use Rattle.resolve_answer.proofs.TrimRules.{AreEarlier, same_rules}
use Rattle.resolvo.specs.Conflicts.{Left, AreOffers, IsRightOffer}
use Rattle.resolvo.specs.Solver.{Kept, IsAnswer}
use Rattle.resolvo.specs.declared.conflict.Conflict.{Conflict}
use Rattle.resolvo.specs.declared.solver.UnsolvableOrCancelled.TheVariants.{Unsolvable}
use Rattle.resolve_install.specs.Numbers.{numbers_of}
use Rattle.resolve_install.specs.Install.{AreWishes, Serve, IsInstallOf}
use Rattle.resolve_refusal.specs.Refusal.{IsProofOver, IsWrittenAs, Refutes}
use Rattle.resolve_refusal.specs.Parts.{IsRefusalOf, report_with}
use Rattle.resolve_refusal.specs.declared.report.Refusal.{Refusal}
use Rattle.resolve_refusal.specs.InstallSteps.{AreInstallSteps}
use Rattle.resolvo.specs.SoftTurns.{AreCandidates}
use Rattle.resolvo.specs.declared.turns.Turn as Solver
use Rattle.resolvo.proofs.Forward.{one_each}
use Rattle.resolvo.specs.Turns.{first_of}
use Rattle.resolve_answer.specs.Wishes.{AreWishesAt, AreWishesOf, free_of}
use Rattle.resolve_answer.specs.ReportTurns.{AreTurnsFor, AreWanted, IsFirstTurn}
use Rattle.resolve_answer.specs.declared.wishes.Wish.{Wish}
use Rattle.resolve_answer.specs.First.{AreFirstChosen}
use Rattle.resolve_answer.specs.TryOrder.{orders_of}
use Rattle.resolve_answer.specs.Message.{IsMessageOf, IsPlain, IsTextOf, joined}
use Rattle.resolve_answer.specs.Solved.{IsInstalledOver, IsRefutedOver}
use Rattle.resolve_answer.specs.Verdict.{Verdict}
use Rattle.resolve_answer.specs.Reported as reported
use Rattle.resolve_answer.specs.Reported.{AreKept, AreNamed, AreUsed, AreWishTurns, IsReportOf, NameRules}
use Rattle.resolve_answer.proofs.Atoms.{same_atom, exact_atom}
use Rattle.resolve_answer.proofs.KnowLemmas.{known_kept}
use Rattle.resolve_answer.proofs.LengthLemmas.{report_longer}
use Rattle.resolve_answer.proofs.ServeLemmas.{AreSteps, first_entries, free_candidates, kept_is, known_wish, one_step_more, refused_forbidden, serve_is, steps_hold, written_steps}
use Rattle.resolve_answer.proofs.UseLemmas.{named_later, wish_turns, steps_used, zip_length}
use Rattle.resolve_answer.proofs.WishTurns.{steps_prefix}
use Rattle.resolve_answer.proofs.Forbidden.{AreListedWishes, all_first, steps_named}

pub if_ok : {A E : Type 0} {P Q : A → Type 0} (r : Result A E) → ((a : A) → P a → Q a) → IfOk r P → IfOk r Q
if_ok (Ok a) f h = f a h
if_ok (Err e) f h = tt

-- the install report of the turns of a search
pub install_reported : (catalogue request : List Line) (part : Bor (List VersionNo)) (rest : List Turn) (steps : List Step) (r : Report) → IsInstallOf catalogue request (Chose None part ∷ rest) steps r → AreWishTurns request (turns_of (listed catalogue) rest) → AreKept catalogue request (turns_of (listed catalogue) (Chose None part ∷ rest)) → AreFirstChosen catalogue request (members (listed catalogue) part.now)
    → ((answers : List Answer) → AreTurns catalogue request [] [] (turns_of (listed catalogue) (Chose None part ∷ rest)) answers → AreUsed answers steps × NameRules catalogue request answers steps) → IsReportOf catalogue request r
install_reported catalogue request part rest steps r i wished kept first used = record {
  upheld = record { report = i.report; is = refl; accepted = i.accepted };
  claim = i.claim;
  answer = subst (λ (x : Report). reported.IsAnswer catalogue request x) (sym i.installs) (record { chosen = members (listed catalogue) part.now; later = turns_of (listed catalogue) rest; wished = wished; kept = kept; order = i.order; all = i.entries; first = first }, (used (map answer_of i.lines) i.order).0, (used (map answer_of i.lines) i.order).1);
}

-- ---- refusals

-- written steps lead to the last one where those of the proof do
written_named : (catalogue request : List Line) (ids : Ids) (steps : List (ProofStep NameId SolvableId)) (written : List Step) → AllZip (IsWrittenAs catalogue ids request) steps written → trimming.AreNamed steps → AreNamed written
written_named catalogue request ids steps written each named k below =
    let long : length written ≡ length steps = zip_length (IsWrittenAs catalogue ids request) steps written each in
    named_later catalogue request ids steps written each k (named k (omega (arith, below, long)))

-- a line without a newline has a text
plain_texts : (message : List (List ℕ)) → AllByRecursion IsPlain message → AllByRecursion HasText (map Message message)
plain_texts [] plain = tt
plain_texts (line ∷ message) plain = (plain.0, plain_texts message plain.1)

-- the report of a refusal whose steps lead to the last one, with the message of their conflict
pub refusal_reported : (catalogue request : List Line) (ids : Ids) (steps : List (ProofStep NameId SolvableId)) (r : Refusal) (message : List (List ℕ)) → IsRefusalOf catalogue request ids steps r → trimming.AreNamed steps → AllByRecursion IsPlain message
    → IsMessageOf catalogue request (steps_of r.steps.items) message → IsReportOf catalogue request (report_with message r)
refusal_reported catalogue request ids steps r message i named plain is_message =
    let written = steps_of r.steps.items in
    let upheld : IsUpheld catalogue request (report_text (report_with [] r)) (report_with [] r) = record { report = i.report; is = refl; accepted = i.accepted } in
    record {
      upheld = upheld_with r.catalogue.items r.request.items written catalogue request [] message (plain_texts message plain) upheld;
      claim = i.claim;
      answer = (i.used, written_named catalogue request ids steps written i.each named, all_first catalogue request ids steps written i.each, is_message);
    }

-- The report with the message is right, and no shorter than the message.
abbrev pub IsTold : List Line → List Line → List (List ℕ) → Refusal → Type 0
IsTold catalogue request message r = IsReportOf catalogue request (report_with message r) × (length (joined message) ≤ length (report_text (report_with message r)))

-- ---- an installed set

module _ (catalogue : List Line) (source : ReadRequest) (provider : Provider) (wishes : List Wish) (asks_rightly : AreRequestLines catalogue source.lines) where
  module _ (chosen : List SolvableId) (turns : List (Solver.Turn SolvableId)) (proof : List (ProofStep NameId SolvableId)) (is : IsInstalledOver catalogue source provider wishes chosen turns proof) where
    -- the steps that are kept of the proof are one
    kept_proof : (Wanted : ℕ → Type 0) (kept : List (ProofStep NameId SolvableId)) → IsTrimmedTo Wanted proof kept → StaysProof proof kept → (HaveOnePlace proof → HaveOnePlace kept) → (HaveOneSigns proof → HaveOneSigns kept) → IsProofOver catalogue source provider kept
    kept_proof Wanted kept trimmed stays places signs =
        let proved = is.steps.proof same_atom exact_atom in
        record {
          over = is.over;
          ids = is.ids;
          asked = is.asked;
          same_atom = same_atom;
          exact_atom = exact_atom;
          same = is.same;
          exact = is.exact;
          proof = stays same_atom is.same (packages_of provider) (root_of is.ids) proved;
          known = known_kept catalogue source provider is.over asks_rightly is.ids is.asked is.same is.exact same_atom proof proved is.steps.drawn Wanted kept trimmed;
          one_sign = signs is.steps.signs;
          one_place = places is.steps.one_place;
        }

    -- the install report of the chosen versions
    pub installed_reported : (wanted : List ℕ) → AreWanted turns wanted → (kept : List (ProofStep NameId SolvableId)) (places : List ℕ) → IsTrimmedWith (Contains wanted) proof kept places → StaysProof proof kept
        → (HaveOnePlace proof → HaveOnePlace kept) → (HaveOneSigns proof → HaveOneSigns kept) → (written : List Step) → (IsProofOver catalogue source provider kept → AreInstallSteps catalogue source.lines provider.ids kept written) → (numbers : List VersionNo) → numbers ≡ numbers_of chosen
        → (t : Turn) (rest : List Turn) (after : List Step) → IsFirstTurn numbers turns t → AreTurnsFor numbers turns places wishes 0 written rest after → (r : Report) → (Serve catalogue source.lines (t ∷ rest) after → IsInstallOf catalogue source.lines (t ∷ rest) after r)
        → IsReportOf catalogue source.lines r
    installed_reported wanted are_wanted kept places numbered stays one_place signs written writes numbers numbers_are t rest after first_turn matched r reports =
        let install = writes (kept_proof (Contains wanted) kept numbered.trimmed stays one_place signs) in
        let (others, whole) = steps_prefix numbers turns places wishes 0 written rest after matched in
        let refuses = refused_forbidden catalogue source provider is.over is.ids is.asked asks_rightly is.same is.exact is.are_wishes wishes is.matched chosen turns is.wished proof kept wanted places is.proofs are_wanted numbered written others after install whole in
        let steps : AreSteps catalogue source.lines after = steps_hold catalogue (AreSteps catalogue source.lines) (one_step_more catalogue source.lines) numbers turns places wishes 0 written rest after is.matched.forbids (written_steps catalogue source.lines provider.ids kept written install) matched in
        let serve = serve_is catalogue source provider is.over is.ids is.asked asks_rightly is.same is.exact is.are_wishes wishes is.matched chosen turns is.wished numbers numbers_are places after written t rest first_turn matched refuses steps in
        let kept_turns = kept_is catalogue source provider is.over is.ids is.asked asks_rightly is.same is.exact is.are_wishes wishes is.matched chosen turns is.wished numbers numbers_are places after written t rest first_turn matched refuses in
        let listed_wishes : AreListedWishes catalogue wishes =
        λ w h. (let known = known_wish catalogue source provider is.over is.ids is.asked asks_rightly is.same is.exact is.are_wishes wishes is.matched w h in (known.version, known.there, known.forbidden_by)) in
        let (part, is_first, between) = first_turn in
        install_reported catalogue source.lines part rest after r (subst (λ (u : Turn). IsInstallOf catalogue source.lines (u ∷ rest) after r) is_first (reports serve)) (wish_turns catalogue source.lines t rest after serve)
        (subst (λ (u : Turn). AreKept catalogue source.lines (turns_of (listed catalogue) (u ∷ rest))) is_first kept_turns)
        (first_entries catalogue source provider is.over is.ids is.asked asks_rightly is.same is.exact is.are_wishes wishes is.matched chosen turns is.wished numbers numbers_are part between is.preferred)
        (λ answers are. (
          steps_used catalogue source.lines provider.ids turns chosen proof kept wanted places are_wanted numbered is.proofs written install.each numbers wishes (Chose None part) rest after matched (one_each is.same (packages_of provider) (root_of is.ids) chosen (first_of chosen turns) (free_of wishes) turns is.wished) answers are,
          steps_named catalogue source.lines provider.ids kept written install.each numbers turns places wishes listed_wishes (order.Chose None (members (listed catalogue) part.now)) (members (listed catalogue) part.now) refl rest after matched answers are,
        ))

-- ---- the proof and the conflict that the solver keeps

-- a derived step of a proof has earlier causes
earlier_causes : (same : SolvableId → SolvableId → Bool) (p : Provider) (root : Rules) (steps : List (ProofStep NameId SolvableId)) → IsProof same_atom same (packages_of p) root steps → AreEarlier steps
earlier_causes same p root steps proof place step at cause = go step (proof place step at)
  where
    go : (step : ProofStep NameId SolvableId) → IsStep same_atom same (packages_of p) root steps place step → Names step cause → cause < place
    go (Rule r) is names = absurd names
    go (Derived literals causes) is names = is.earlier cause names

module _ (catalogue : List Line) (source : ReadRequest) (same : SolvableId → SolvableId → Bool) (solver : Kept Provider NameId SolvableId) (asks_rightly : AreRequestLines catalogue source.lines) (is : IsRefutedOver same catalogue source solver) where
  -- the steps that lead to the end of a proof that there is no solution are one
  kept_refutes : (kept : List (ProofStep NameId SolvableId)) → IsTrimmed solver.proof kept → StaysProof solver.proof kept → (EndsEmpty solver.proof → EndsEmpty kept) → (HaveOnePlace solver.proof → HaveOnePlace kept) → (HaveOneSigns solver.proof → HaveOneSigns kept) → Refutes catalogue source solver.provider kept
  kept_refutes kept trimmed stays ends places signs =
      let proved = is.steps.proof same_atom exact_atom in
      record {
        proves = record {
          over = is.over;
          ids = is.ids;
          asked = is.asked;
          same_atom = same_atom;
          exact_atom = exact_atom;
          same = same;
          exact = is.exact;
          proof = stays same_atom same (packages_of solver.provider) (root_of is.ids) proved;
          known = known_kept catalogue source solver.provider is.over asks_rightly is.ids is.asked same is.exact same_atom solver.proof proved is.steps.drawn (IsLast solver.proof) kept trimmed;
          one_sign = signs is.steps.signs;
          one_place = places is.steps.one_place;
        };
        empty = ends is.ends;
      }

  -- they name the rules of the solver's conflict
  rules_kept : (kept : List (ProofStep NameId SolvableId)) → IsTrimmed solver.proof kept → conflict_rules solver.proof ≡ conflict_rules kept
  rules_kept kept trimmed = sym (same_rules solver.proof kept trimmed (earlier_causes same solver.provider (root_of is.ids) solver.proof (is.steps.proof same_atom exact_atom)) is.ends)

  text_kept : (kept : List (ProofStep NameId SolvableId)) → IsTrimmed solver.proof kept → (same_name : NameId → NameId → Bool) (offered : Requirement → List SolvableId) (message : List (List ℕ)) → IsTextOf same_name same solver.provider offered solver.proof message → IsTextOf same_name same solver.provider offered kept message
  text_kept kept trimmed same_name offered message text = record {
    lines = text.lines;
    is_message = subst (λ (rules : List (ProofRule NameId SolvableId)). IsMessage same_name same (name_of solver.provider.ids) (conflict_drawing same_name same (name_of solver.provider.ids) offered rules) text.lines) (rules_kept kept trimmed) text.is_message;
    text = text.text;
    plain = text.plain;
  }

  offers_kept : (kept : List (ProofStep NameId SolvableId)) → IsTrimmed solver.proof kept → (offers : Offers SolvableId) → AreOffers same (packages_of solver.provider) (orders_of same solver.provider) solver.proof offers → AreOffers same (packages_of solver.provider) (orders_of same solver.provider) kept offers
  offers_kept kept trimmed offers are =
      subst (λ (rules : List (ProofRule NameId SolvableId)). (r : Requirement) → Contains (requirements_in rules) r → IsRightOffer same (packages_of solver.provider) (orders_of same solver.provider) r (offered_by offers r)) (rules_kept kept trimmed) are

  -- its report, with the message of the conflict
  pub clash_reported : (kept : List (ProofStep NameId SolvableId)) → IsTrimmed solver.proof kept → trimming.AreNamed kept → StaysProof solver.proof kept → (EndsEmpty solver.proof → EndsEmpty kept)
      → (HaveOnePlace solver.proof → HaveOnePlace kept) → (HaveOneSigns solver.proof → HaveOneSigns kept) → (r : Refusal) → (Refutes catalogue source solver.provider kept → IsRefusalOf catalogue source.lines solver.provider.ids kept r)
      → (same_name : NameId → NameId → Bool) → IsExact same_name → (l : Left SolvableId) → solver.conflict ≡ Some l
      → (message : List (List ℕ)) → IsTextOf same_name same solver.provider (offered_by l.offers) solver.proof message → IsTold catalogue source.lines message r
  clash_reported kept trimmed named stays ends places signs r reports same_name one_name l at message text =
      let refutes = kept_refutes kept trimmed stays ends places signs in
      let refusal : IsRefusalOf catalogue source.lines solver.provider.ids kept r = reports refutes in (
        refusal_reported catalogue source.lines solver.provider.ids kept r message refusal named text.plain (record {
          source = source;
          asks = refl;
          provider = solver.provider;
          proof = kept;
          proves = refutes.proves;
          matched = refusal.each;
          same_name = same_name;
          one_name = one_name;
          same = same;
          exact = is.exact;
          offers = l.offers;
          offered = offers_kept kept trimmed l.offers (is.offers l at);
          text = text_kept kept trimmed same_name (offered_by l.offers) message text;
        }),
        report_longer r.catalogue.items r.request.items (steps_of r.steps.items) message,
      )

  -- the same by a proof that was taken from the solver
  pub taken_reported : (proof : List (ProofStep NameId SolvableId)) → proof ≡ solver.proof → (kept : List (ProofStep NameId SolvableId)) → IsTrimmed proof kept → trimming.AreNamed kept → StaysProof proof kept → (EndsEmpty proof → EndsEmpty kept)
      → (HaveOnePlace proof → HaveOnePlace kept) → (HaveOneSigns proof → HaveOneSigns kept) → (r : Refusal) → (Refutes catalogue source solver.provider kept → IsRefusalOf catalogue source.lines solver.provider.ids kept r)
      → (same_name : NameId → NameId → Bool) → IsExact same_name → (l : Left SolvableId) → solver.conflict ≡ Some l
      → (message : List (List ℕ)) → IsTextOf same_name same solver.provider (offered_by l.offers) solver.proof message → IsTold catalogue source.lines message r
  taken_reported proof taken kept trimmed named stays ends places signs r reports same_name one_name l at message text =
      subst (λ (xs : List (ProofStep NameId SolvableId)). IsTrimmed xs kept → StaysProof xs kept → (EndsEmpty xs → EndsEmpty kept) → (HaveOnePlace xs → HaveOnePlace kept) → (HaveOneSigns xs → HaveOneSigns kept) → IsTold catalogue source.lines message r) (sym taken)
      (λ t s e p o. clash_reported kept t named s e p o r reports same_name one_name l at message text) trimmed stays ends places signs

-- ---- the solver's answer

-- the answer for these wishes, over a provider
abbrev pub IsAnswerFor : (SolvableId → SolvableId → Bool) → RequestIds → List SolvableId → Verdict → Kept Provider NameId SolvableId → Provider → Type 0
IsAnswerFor same ids free verdict solver p = AreCandidates same (packages_of p) free → IsAnswer same (packages_of p) (root_of ids) (orders_of same p) free verdict solver

module _ (catalogue : List Line) (source : ReadRequest) (wishes : List Wish) (ids : RequestIds) (same : SolvableId → SolvableId → Bool) (exact : IsExact same) (old : Provider) (solver : Kept Provider NameId SolvableId)
    (asks_rightly : AreRequestLines catalogue source.lines) (lines : AreAll (map (λ f. f.0) source.wishes) (λ n. LineIs source.lines n IsWish)) (versions : AreWishesAt catalogue source) (matched : AreWishesOf catalogue source.wishes wishes)
    (stays : solver.provider ≡ old) (over : IsOver catalogue old) (asked : AreAsked old.ids source ids) where
  are_wishes : AreWishes catalogue source.lines source.wishes
  are_wishes = record { lines = lines; versions = versions }

  -- the same of the wishes that no step forbids, over the provider that is kept
  answer_kept : (free : List SolvableId) → free ≡ free_of wishes → (verdict : Verdict) → IsAnswerFor same ids free verdict solver old → IsAnswer same (packages_of solver.provider) (root_of ids) (orders_of same solver.provider) (free_of wishes) verdict solver
  answer_kept free free_is verdict answer_is_it =
      subst (λ (xs : List SolvableId). IsAnswerFor same ids xs verdict solver solver.provider) free_is (subst (IsAnswerFor same ids free verdict solver) (sym stays) answer_is_it)
      (subst (λ (q : Provider). AreCandidates same (packages_of q) (free_of wishes)) (sym stays) (free_candidates catalogue source old over ids asked asks_rightly same exact are_wishes wishes matched))

  -- the chosen versions
  pub answer_installed : (free : List SolvableId) → free ≡ free_of wishes → (chosen : Vec SolvableId Global) → IsAnswerFor same ids free (Ok chosen) solver old → IsInstalledOver catalogue source solver.provider wishes chosen.items solver.turns solver.proof
  answer_installed free free_is chosen answer_is_it =
      let (wished, preferred, proofs, steps, counted) = answer_kept free free_is (Ok chosen) answer_is_it in
      record {
        over = subst (IsOver catalogue) (sym stays) over;
        ids = ids;
        asked = subst (λ (q : Provider). AreAsked q.ids source ids) (sym stays) asked;
        same = same;
        exact = exact;
        are_wishes = are_wishes;
        matched = matched;
        wished = wished;
        preferred = preferred;
        steps = steps;
        proofs = proofs;
      }

  -- that there is no solution
  pub answer_refuted : (free : List SolvableId) → free ≡ free_of wishes → (conflict : Conflict) → IsAnswerFor same ids free (Err (Unsolvable conflict)) solver old → EndsEmpty solver.proof → IsRefutedOver same catalogue source solver
  answer_refuted free free_is conflict answer_is_it ends =
      let (none, steps, counted, (kept, there, offered)) = answer_kept free free_is (Err (Unsolvable conflict)) answer_is_it in
      record {
        over = subst (IsOver catalogue) (sym stays) over;
        ids = ids;
        asked = subst (λ (q : Provider). AreAsked q.ids source ids) (sym stays) asked;
        exact = exact;
        steps = steps;
        ends = ends;
        offers = λ l at. subst (λ (k : Left SolvableId). AreOffers same (packages_of solver.provider) (orders_of same solver.provider) solver.proof k.offers) (same_Some kept l (sym there ∙ at)) offered;
      }
