use Rattle.std.proofs.Common.{◌≡◌, ◌+◌, ◌∷◌, ◌++◌, [], ◌∙◌, List, Vec, Global, take, subst, sym, ap}
use Rattle.std.proofs.lemmas.List.{take_more, take_all}
use Rattle.resolvo_packages.specs.declared.package_source.Offered.{Offered}
use Rattle.resolvo_state.specs.declared.registry.Member.{Member}
use Rattle.resolvo_encoder.proofs.PlaceLemmas.{AreMembers, members_none, members_more, members_other, waiting_are}
use Rattle.resolvo_encoder.proofs.encoder.Encoder.queued_solvables.Goals as goal
use Rattle.resolvo_encoder.proofs.encoder.Encoder.queued_solvables.Goals.{in-Some+in_ok-push, in_default}

pub queued-members-requires : goal.queued-members-requires
queued-members-requires g c = c.requires.tied.within

pub loop-member-init : goal.loop-member-init
loop-member-init g c = subst (λ (xs : List (Offered _ _)). AreMembers c.args.self.now.coding.atoms.keys [] xs) (sym c.in_ok-waiting.ensures.items) (members_none c.args.self.now.coding.atoms.keys)

pub loop-member-preserved : goal.loop-member-preserved
loop-member-preserved g c =
    let atoms = c.args.self.now.coding.atoms.keys in
    let ms = c.queued-members.result.now in
    let i = c.loop-member.member-index in
    let d = c.member-item.result in
    let now = λ (x : Vec (Offered g.row.N.Denot g.row.S.Denot) Global). AreMembers atoms (take (i + 1) ms) x.items in
    let more : take (i + 1) ms ≡ take i ms ++ d ∷ [] = take_more ms i d c.loop-member-test.true ∙ ap (λ (x : Member _). take i ms ++ x ∷ []) (sym c.member-item.is) in
    elim c.match-solvable.branch [
      | in-Some+in_ok-push w ↦
          subst now (sym w.waiting-is) (subst (λ (xs : List (Offered _ _)). AreMembers atoms (take (i + 1) ms) xs) (sym w.in_ok-push.ensures.items)
          (subst (λ (us : List (Member _)). AreMembers atoms us (c.loop-member.waiting.items ++ record { solvable = w.in-Some.solvable; name = d.name } ∷ [])) (sym more) (members_more atoms (take i ms) c.loop-member.waiting.items d w.in-Some.solvable (sym w.in-Some.ensures) c.loop-member.invariant)))
      | in_default w ↦
          subst now (sym w.waiting-is) (subst (λ (us : List (Member _)). AreMembers atoms us c.loop-member.waiting.items) (sym more) (members_other atoms (take i ms) c.loop-member.waiting.items d (sym w.in_default.ensures) c.loop-member.invariant))
    ]

pub returns-clause-waiting : goal.returns-clause-waiting
returns-clause-waiting g c = waiting_are c.args.self.now c.queued-members.result.now c.loop-member.waiting.items c.group.new.list.items c.requires.tied c.queued-members.ensures.waiting c.queued-members.ensures.registered
    (subst (λ (us : List (Member _)). AreMembers c.args.self.now.coding.atoms.keys us c.loop-member.waiting.items) (take_all c.loop-member.member-index c.queued-members.result.now c.loop-member-test.false) c.loop-member.invariant) c.in_ok-group.ensures.grouped
