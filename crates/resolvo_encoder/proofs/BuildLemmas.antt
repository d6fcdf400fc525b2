-- Each step keeps the precondition of the calls.
use Rattle.std.proofs.Common.{◌≡◌, ℕ, ◌+◌, ◌<◌, ◌≤◌, inl, inr, Bool, false, [], ◌∷◌, ◌++◌, List, length, Option, Some, None, Vec, Global, refl, sym, ◌∙◌, ap, subst, arith, true}
use Rattle.std.specs.Prelude.{Contains}
use Rattle.resolvo_store_core.specs.Lists.{list_or_none}
use Rattle.std.proofs.lemmas.Bool.{both_ways}
use Rattle.std.proofs.lemmas.List.{length-append}
use Rattle.resolvo_pool_core.specs.declared.id.DenseId.{DenseId}
use Rattle.resolvo_pool_core.specs.declared.id.DisjunctionTag.{DisjunctionTag}
use Rattle.resolvo_pool_core.specs.declared.id.VariableId.{VariableId}
use Rattle.resolvo_pool_core.specs.declared.requirement.Requirement.{Requirement}
use Rattle.resolvo_pool_core.specs.ByRequirement.{slot_of, PutsAt}
use Rattle.resolvo_store_core.specs.Trail.{Tracked, IsSeenOf, KeepsSeen}
use Rattle.resolvo_store_core.proofs.Trails.{seen_prefix}
use Rattle.resolvo_store_core.specs.Signed.{Signed, has}
use Rattle.resolvo_store_core.specs.Clauses.{yes, no, candidate_literals}
use Rattle.resolvo_store_core.specs.Lists.{named_by, candidates_in, condition_in, FixesDisjunction}
use Rattle.resolvo_store_core.specs.declared.lists.FixedLists.{FixedLists}
use Rattle.resolvo_store_core.specs.Pick.{pick_by}
use Rattle.resolvo_store_core.specs.declared.pick.NextDecision.{NextDecision}
use Rattle.resolvo_store_core.specs.declared.decision.Entry.{Entry}
use Rattle.resolvo_decide.specs.Queue.{needs_of, IsSound}
use Rattle.resolvo_decide.specs.declared.decide_queue.DecideQueue.{DecideQueue}
use Rattle.resolvo_decide.proofs.SoundLemmas.{sound_more, sound_new}
use Rattle.resolvo_store_core.specs.declared.pick.NeedClause.{NeedClause}
use Rattle.resolvo_sat.specs.Entries.{made_true}
use Rattle.resolvo_sat.specs.Known.{IsUndecided, clause_at}
use Rattle.resolvo_sat.specs.State.{history, count_of, lists}
use Rattle.resolvo_sat.specs.Steps.{AreInRange}
use Rattle.resolvo_sat.proofs.Literals.{has-cons, has-append}
use Rattle.resolvo_state.specs.declared.atom.ProofAtom.{ProofAtom}
use Rattle.resolvo_state.specs.declared.atom.ProofAtom.TheVariants.{Solvable, Gate}
use Rattle.resolvo_state.specs.declared.registry.Registry.{Registry}
use Rattle.resolvo_state.specs.Kinds.{Kind}
use Rattle.resolvo_state.specs.Kinds.{Digit}
use Rattle.resolvo_state.specs.Atoms.{Represents}
use Rattle.resolvo_state.specs.declared.solver_state.SolverState.{SolverState}
use Rattle.resolvo_state.specs.SolverState.{IsCoding, Grows, SameTrail, Gives}
use Rattle.resolvo_state.specs.Registered.{AreTied}
use Rattle.resolvo_state.proofs.Growth.{grows_same, represents_grow, represents_in_range}
use Rattle.resolvo_state.proofs.KeepLemmas.{floored_kept}
use Rattle.resolvo_state.proofs.Positions.{prefix_long}
use Rattle.resolvo_state.proofs.RegisterLemmas.{KeepsDigits, digits_more, digits_same, ties_grow, nothing_tied}
use Rattle.resolvo_sat.proofs.Lists.{contains_none, contains_one, contains_parts}
use Rattle.resolvo_sat.proofs.Clauses.{length-lists}
use Rattle.resolvo_sat.proofs.StepLemmas.{lists-append, clause_at_end}
use Rattle.resolvo_encoder.specs.Steps.{HasNeedLiterals, EncodesNeed, SameButCoding, IsBuilt, IsBegunEncoding, AddsParent}
use Rattle.resolvo_encoder.specs.TurnLevels.{AreValues}
use Rattle.resolvo_encoder.specs.declared.encoder.Encoder.{Encoder}
use Rattle.resolvo_encoder.proofs.DecideLemmas.{picked, offers, for_listed, open_undecided}
use Rattle.resolvo_encoder.proofs.NeedClauses.{literals_grow, literals_widen, condition_widens}
use Rattle.resolvo_encoder.proofs.NeedLemmas.{literal_in}
use Rattle.resolvo_encoder.proofs.RequireLemmas.{put_at, put_other, some_one}

-- what was seen of the trail is there still where the trail is unchanged
pub trail_on : {N S : Type 0} (old new : SolverState N S) → SameTrail old new → KeepsSeen old.search.tracker new.search.tracker
trail_on old new same = λ seen h. subst (λ (t : Tracked). IsSeenOf t seen) (sym same.tracker) h

pub seen_same : {N S : Type 0} (old new : Encoder N S) → IsBuilt old → SameTrail old.coding new.coding → new.queue.undecided.seen ≡ old.queue.undecided.seen → IsSeenOf new.coding.search.tracker new.queue.undecided.seen.items
seen_same old new b same seen = subst (λ (es : Vec Entry Global). IsSeenOf new.coding.search.tracker es.items) (sym seen) (trail_on old.coding new.coding same old.queue.undecided.seen.items b.seen)

-- the clauses of the queue stay
pub clauses_grow : {N S : Type 0} (old new : Encoder N S) → IsBuilt old → Grows old.coding new.coding → needs_of new.queue ≡ needs_of old.queue → (q : NeedClause) → Contains (needs_of new.queue) q → HasNeedLiterals old.lists new.coding.search.clauses q
clauses_grow old new b grows queue q a = literals_grow old.lists old.coding.search.clauses new.coding.search.clauses q grows.clauses (b.clauses q (subst (λ (qs : List NeedClause). Contains qs q) queue a))

-- where only clauses, variables and the queue change
pub built_grows : {N S : Type 0} (old new : Encoder N S) → IsBuilt old → IsCoding new.coding → Grows old.coding new.coding → new.registry ≡ old.registry → new.lists ≡ old.lists → new.gates ≡ old.gates
    → new.parents ≡ old.parents → new.encoded ≡ old.encoded → KeepsDigits old.coding new.coding
    → ((q : NeedClause) → Contains (needs_of new.queue) q → HasNeedLiterals old.lists new.coding.search.clauses q) → IsSound old.lists new.queue → IsSeenOf new.coding.search.tracker new.queue.undecided.seen.items → IsBuilt new
built_grows {N} {S} old new b coding grows registry lists gates parents encoded digits clauses sound seen = record {
  coding = coding;
  tied = subst (λ (t : Registry N). AreTied t new.coding) (sym registry) (ties_grow old.registry old.coding new.coding grows digits b.tied);
  candidates = λ r c a. (let (positive, (s, present)) = b.candidates r c (subst (λ ls. Contains (candidates_in ls r) c) lists a) in (positive, (s, represents_grow old.coding new.coding c.literal.variable (Solvable s) grows present)));
  gates = λ r v at. represents_grow old.coding new.coding v (Gate r) grows (b.gates r v (sym (ap (λ gs. slot_of gs r) gates) ∙ at));
  within = subst (λ n. n ≤ length new.parents.keys) (sym encoded) (subst (λ ps. old.encoded ≤ length ps.keys) (sym parents) b.within);
  clauses = λ q a. subst (λ (ls : FixedLists N). HasNeedLiterals ls new.coding.search.clauses q) (sym lists) (clauses q a);
  queue = subst (λ ls. IsSound ls new.queue) (sym lists) sound;
  seen = seen;
}

pub built_rest : {N S : Type 0} (old new : Encoder N S) → IsBuilt old → IsCoding new.coding → Grows old.coding new.coding → KeepsDigits old.coding new.coding → SameButCoding old new → new.queue ≡ old.queue → KeepsSeen old.coding.search.tracker new.coding.search.tracker → IsBuilt new
built_rest {N} old new b coding grows digits rest queue on = built_grows old new b coding grows rest.registry rest.lists rest.gates rest.parents rest.encoded digits (clauses_grow old new b grows rest.queue)
    (subst (λ (q : DecideQueue N). IsSound old.lists q) (sym queue) b.queue)
    (subst (λ (q : DecideQueue N). IsSeenOf new.coding.search.tracker q.undecided.seen.items) (sym queue) (on old.queue.undecided.seen.items b.seen))

-- the clause of the new need is the last one
clauses_end : {N S : Type 0} (x : Kind N S) (v : VariableId) (condition : Option (DenseId DisjunctionTag ℕ)) (r : Requirement) (old new : Encoder N S) → IsBuilt old → EncodesNeed x v condition r old new → (q : NeedClause) → Contains (needs_of new.queue) q → HasNeedLiterals old.lists new.coding.search.clauses q
clauses_end {N} {S} x v condition r old new b s q a = elim (contains_parts q (needs_of old.queue) (here ∷ []) (subst (λ (qs : List NeedClause). Contains qs q) s.queue a)) [
  | inl before ↦ literals_grow old.lists old.coding.search.clauses new.coding.search.clauses q s.states.grows.clauses (b.clauses q before)
  | inr last ↦ subst (λ (y : NeedClause). HasNeedLiterals old.lists new.coding.search.clauses y) (sym (contains_one q here last)) (record { in_range = below; each = λ l h. subst (λ (c : List Signed). has c l ≡ true) is h })
]
  where
    here : NeedClause
    here = record { parent = v; requirement = r; condition = condition; clause = s.number }

    below : s.number.0 < length new.coding.search.clauses
    below = (let long : length new.coding.search.clauses ≡ length old.coding.search.clauses + 1 = ap length s.states.added ∙ length-append old.coding.search.clauses (s.states.clause ∷ []) in let number = s.states.number in omega arith)

    is : clause_at (lists new.coding.search.clauses) s.number.0 ≡ no v ∷ (condition_in old.lists condition ++ candidate_literals (candidates_in old.lists r))
    is =
        ap (λ cs. clause_at (lists cs) s.number.0) s.states.added
        ∙ ap (λ (cs : List (List Signed)). clause_at cs s.number.0) (lists-append old.coding.search.clauses (s.states.clause ∷ []))
        ∙ ap (clause_at (lists old.coding.search.clauses ++ s.states.clause.literals ∷ [])) (s.states.number ∙ sym (length-lists old.coding.search.clauses))
        ∙ clause_at_end (lists old.coding.search.clauses) s.states.clause.literals
        ∙ s.states.literals

pub built_encodes : {N S : Type 0} (x : Kind N S) (v : VariableId) (condition : Option (DenseId DisjunctionTag ℕ)) (r : Requirement) (old new : Encoder N S) → IsBuilt old → ((name : N) (s : S) (place bit : ℕ) → x ≡ Digit name s place bit → ⊥) → EncodesNeed x v condition r old new → IsBuilt new
built_encodes x v condition r old new b other s = built_grows old new b s.states.coding s.states.grows s.registry s.lists s.gates s.parents s.encoded (digits_more x old.coding new.coding s.states.kinds other) (clauses_end x v condition r old new b s)
    (s.sound old.lists b.queue) (seen_same old new b s.states.trail s.seen)

-- where a variable was added, or nothing
pub built_gives : {N S : Type 0} (atom : ProofAtom N S) (v : VariableId) (old : Encoder N S) (c : SolverState N S) → IsBuilt old → Gives atom v old.coding c → IsBuilt (record old { coding = c })
built_gives atom v old c b gives =
    let new : Encoder _ _ = record old { coding = c } in
    built_grows old new b gives.coding gives.grows refl refl refl refl refl (digits_same old.coding c gives.kinds) (clauses_grow old new b gives.grows refl) b.queue (seen_same old new b gives.trail refl)

-- where a disjunction was added
pub built_disjunction : {N S : Type 0} (number : ℕ) (given : List Signed) (old : Encoder N S) (ls : FixedLists N) → IsBuilt old → FixesDisjunction number given old.lists ls → IsBuilt (record old { lists = ls })
built_disjunction number given old ls b f = record {
  coding = b.coding;
  tied = b.tied;
  candidates = λ r c a. b.candidates r c (subst (λ x. Contains (list_or_none x) c) (ap (λ cs. slot_of cs r) f.candidates) a);
  gates = b.gates;
  within = b.within;
  clauses = λ q a. literals_widen old.lists ls old.coding.search.clauses q (condition_widens old.lists ls (given ∷ [], f.put) q.condition) (λ l h. subst (λ cs. has (candidate_literals (list_or_none (slot_of cs q.requirement))) l ≡ true) (sym f.candidates) h) (b.clauses q a);
  queue = sound_more old.lists ls old.queue (λ r some. ap (λ cs. list_or_none (slot_of cs r)) f.candidates) b.queue;
  seen = b.seen;
}

-- where a gate was recorded
pub built_gate : {N S : Type 0} (old new : Encoder N S) (r : Requirement) (v : VariableId) → IsBuilt old → Represents old.coding.atoms.keys v (Gate r) → PutsAt old.gates new.gates r v → new ≡ record old { gates = new.gates } → IsBuilt new
built_gate {N} {S} old new r v b present puts is = subst (λ (x : Encoder N S). IsBuilt x) (sym is) (record {
  coding = b.coding;
  tied = b.tied;
  candidates = b.candidates;
  gates = λ q u at. elim (put_other old.gates new.gates r q v puts) [
    | inl same_one ↦ (let one : v ≡ u = some_one v u (sym (ap (slot_of new.gates) same_one ∙ put_at old.gates new.gates r v puts) ∙ at) in
        subst (λ y. Represents old.coding.atoms.keys u (Gate y)) (sym same_one) (subst (λ w. Represents old.coding.atoms.keys w (Gate r)) one present))
    | inr stays ↦ b.gates q u (sym stays ∙ at)
  ];
  within = b.within;
  clauses = b.clauses;
  queue = b.queue;
  seen = b.seen;
})

-- where parents were added
pub built_parents : {N S : Type 0} (old new : Encoder N S) → IsBuilt old → AddsParent old new → IsBuilt new
built_parents {N} {S} old new b added = subst (λ (x : Encoder N S). IsBuilt x) (sym added.rest) (record {
  coding = b.coding;
  tied = b.tied;
  candidates = b.candidates;
  gates = b.gates;
  within = (let a : length old.parents.keys ≤ length new.parents.keys = prefix_long old.parents.keys new.parents.keys added.prefix in let c : old.encoded ≤ length old.parents.keys = b.within in omega arith);
  clauses = b.clauses;
  queue = b.queue;
  seen = b.seen;
})

-- where the requirements of the next parent were encoded
pub built_next : {N S : Type 0} (e : Encoder N S) → IsBuilt e → e.encoded < length e.parents.keys → IsBuilt (record e { encoded = e.encoded + 1 })
built_next e b below = record { coding = b.coding; tied = b.tied; candidates = b.candidates; gates = b.gates; within = omega arith; clauses = b.clauses; queue = b.queue; seen = b.seen }

-- at first
pub built_begun : {N S : Type 0} (e : Encoder N S) → IsBegunEncoding e → IsBuilt e
built_begun {N} {S} e begun = record {
  coding = begun.coding.coding;
  tied = nothing_tied e.registry e.coding begun.registry begun.coding.kinds;
  candidates = λ r c a. absurd (contains_none c (subst (λ x. Contains (list_or_none x) c) (begun.lists.candidates r) a));
  gates = λ r v at. (let none : None ≡ Some v = sym (begun.gates r) ∙ at in absurd cc);
  within = (let none : e.encoded ≡ 0 = begun.encoded in omega arith);
  clauses = λ q a. absurd (contains_none q (subst (λ (qs : List NeedClause). Contains qs q) begun.queue.registered a));
  queue = sound_new e.lists e.queue begun.queue;
  seen = subst (λ es. IsSeenOf e.coding.search.tracker es) (sym begun.queue.seen) (seen_prefix e.coding.search.tracker [] (e.coding.search.tracker.trail, refl));
}

-- where the queue was brought up to date with the trail, whose least length was taken
abbrev pub synced : {N S : Type 0} → Encoder N S → DecideQueue N → ℕ → Encoder N S
synced e q floor = record e { queue = q; coding = record e.coding { search = record e.coding.search { tracker = record e.coding.search.tracker { floor = floor } } } }

pub synced_grows : {N S : Type 0} (e : Encoder N S) (q : DecideQueue N) (floor : ℕ) → Grows e.coding (synced e q floor).coding
synced_grows e q floor = let same = grows_same e.coding in record { atoms = same.atoms; clauses = same.clauses; kinds = same.kinds; base_level = refl }

pub built_synced : {N S : Type 0} (e : Encoder N S) (q : DecideQueue N) (floor : ℕ) → IsBuilt e → needs_of q ≡ needs_of e.queue → IsSound e.lists q → IsSeenOf (synced e q floor).coding.search.tracker q.undecided.seen.items → IsBuilt (synced e q floor)
built_synced e q floor b needs sound seen =
    let new = synced e q floor in
    built_grows e new b (floored_kept e.coding floor b.coding).coding (synced_grows e q floor) refl refl refl refl refl (digits_same e.coding new.coding refl) (clauses_grow e new b (synced_grows e q floor) needs) sound seen

-- where the queue alone changed, but for its clauses
pub built_queue : {N S : Type 0} (e : Encoder N S) (q : DecideQueue N) → IsBuilt e → needs_of q ≡ needs_of e.queue → IsSound e.lists q → IsSeenOf e.coding.search.tracker q.undecided.seen.items → IsBuilt (record e { queue = q })
built_queue {N} {S} e q b needs sound seen =
    let new : Encoder N S = record e { queue = q } in
    built_grows e new b b.coding (grows_same e.coding) refl refl refl refl refl (digits_same e.coding e.coding refl) (clauses_grow e new b (grows_same e.coding) needs) sound seen

-- ---- preconditions of calls

-- the variables of a requires clause exist
pub built_in_range : {N S : Type 0} (e : Encoder N S) (v : VariableId) (condition : Option (DenseId DisjunctionTag ℕ)) (r : Requirement) → IsBuilt e → v.0 < count_of e.coding.search → AreInRange (count_of e.coding.search) (condition_in e.lists condition)
    → AreInRange (count_of e.coding.search) (no v ∷ (condition_in e.lists condition ++ candidate_literals (candidates_in e.lists r)))
built_in_range e v condition r b below conditioned l h = elim (has-cons (no v) (condition_in e.lists condition ++ candidate_literals (candidates_in e.lists r)) l h) [
  | inl is ↦ subst (λ (y : Signed). y.variable.0 < count_of e.coding.search) is below
  | inr a ↦ elim (has-append (condition_in e.lists condition) (candidate_literals (candidates_in e.lists r)) l a) [
    | inl c ↦ conditioned l c
    | inr c ↦
        let (x, there, one) = literal_in (candidates_in e.lists r) l c in
        let (positive, (s, present)) = b.candidates r x there in
        subst (λ (y : Signed). y.variable.0 < count_of e.coding.search) one (represents_in_range e.coding x.literal.variable (Solvable s) b.coding present)
  ]
]

-- nothing is out of range
pub none_in_range : (count : ℕ) → AreInRange count []
none_in_range count l h = absurd (both_ways false refl h)

-- the next decision is for an undecided variable of the search
pub built_choice : {N S : Type 0} (e : Encoder N S) (values : ℕ → Option Bool) (score : N → ℕ) (d : NextDecision) → IsBuilt e → AreValues values (made_true (history e.coding.search)) → pick_by (named_by e.lists) values score (needs_of e.queue) ≡ Some d
    → IsUndecided (made_true (history e.coding.search)) (yes d.candidate) × (d.candidate.0 < count_of e.coding.search)
built_choice e values score d b agree h =
    let (q, present, offered) = picked (named_by e.lists) values score (needs_of e.queue) d h in
    let (eligible, offer) = offers (named_by e.lists) values score q d offered in
    let c = offer.candidate in
    let (positive, (s, known)) = b.candidates q.requirement c (for_listed (named_by e.lists) values score (candidates_in e.lists q.requirement) d offer) in
    let literal : c.literal ≡ yes d.candidate = λ i. record { variable = offer.is i; positive = positive i } in (
      subst (λ (x : Signed). IsUndecided (made_true (history e.coding.search)) x) literal (open_undecided values (made_true (history e.coding.search)) agree c.literal offer.undecided),
      subst (λ (v : VariableId). v.0 < count_of e.coding.search) offer.is (represents_in_range e.coding c.literal.variable (Solvable s) b.coding known),
    )
