-- The walk with a stack lists the nodes of a visit of the root, and enters each node once.
use Rattle.std.proofs.Common.{◌≡◌, ℕ, ◌+◌, ◌*◌, ◌<◌, ◌≤◌, Bool, true, false, cond, List, [], ◌∷◌, ◌++◌, map, reverse, length, All, inl, inr, refl, sym, ap, subst, ◌∙◌, arith, append_assoc, length-append}
use Rattle.std.specs.Prelude.{◌||◌, ◌⊎◌, ⊤, filter}
use Rattle.std.proofs.lemmas.Bool.{eqb-true}
use Rattle.std.proofs.lemmas.List.{append-nil, reverse-append, map-append, length-map, length-reverse}
use Rattle.std.proofs.lemmas.List.Sums.{length-filter, count_by-le-length}
use Rattle.std.proofs.Math.Nat.{mul-le-mul_left}
use Rattle.std.proofs.lemmas.List.Elements.{All-nil, All-cons, All-filter, All-append, All-push, All-map, All-same}
use Rattle.std.proofs.lemmas.List.Folds.{list_any-append}
use Rattle.std.proofs.lemmas.List.Sorted.{All-permutation, IsPermutation-reverse}
use Rattle.resolvo_graph.specs.declared.graph.NodeIndex.{NodeIndex}
use Rattle.resolvo_graph.specs.declared.graph.Edge.{Edge}
use Rattle.resolvo_graph.specs.declared.walk.Step.{Step}
use Rattle.resolvo_graph.specs.declared.walk.Step.TheVariants.{Enter, Leave}
use Rattle.resolvo_graph.specs.Graph.{Graph, same_node, leaves, edges_of, neighbours}
use Rattle.resolvo_graph.specs.Steps.{steps_into}
use Rattle.resolvo_graph.specs.Walk.{is_among, Visits, done, again, first, IsPostOrder}

-- the root, and the targets of edges
abbrev pub entered : {S : Type 0} → Graph S → List NodeIndex
entered g = record { 0 = 0 } ∷ map (λ e. e.target) g.edges

-- how many of these nodes are unseen
abbrev pub unseen : List NodeIndex → List NodeIndex → ℕ
unseen [] seen = 0
unseen (n ∷ ns) seen = unseen ns seen + cond (is_among seen n) 0 1

same_self : (n : NodeIndex) → same_node n n ≡ true
same_self n = grind arith

or_right : (a b : Bool) → b ≡ true → (a || b) ≡ true
or_right true b h = refl
or_right false b h = h

is_among-push : (seen : List NodeIndex) (n m : NodeIndex) → is_among (seen ++ n ∷ []) m ≡ (is_among seen m || (same_node m n || false))
is_among-push seen n m = list_any-append (same_node m) seen (n ∷ [])

fewer : (a b : Bool) → cond (a || b) 0 1 ≤ cond a 0 1
fewer true b = omega arith
fewer false true = omega arith
fewer false false = omega arith

unseen-push : (ns seen : List NodeIndex) (n : NodeIndex) → unseen ns (seen ++ n ∷ []) ≤ unseen ns seen
unseen-push [] seen n = omega arith
unseen-push (m ∷ ns) seen n =
    let rest : unseen ns (seen ++ n ∷ []) ≤ unseen ns seen = unseen-push ns seen n in
    let here : cond (is_among (seen ++ n ∷ []) m) 0 1 ≤ cond (is_among seen m) 0 1 = rw (is_among-push seen n m) (fewer (is_among seen m) (same_node m n || false)) in
    omega arith

-- one more of them is seen
pub unseen-new : (ns seen : List NodeIndex) (n : NodeIndex) → is_among ns n ≡ true → is_among seen n ≡ false → unseen ns (seen ++ n ∷ []) + 1 ≤ unseen ns seen
unseen-new [] seen n h k = cc
unseen-new (m ∷ ns) seen n h k = go (same_node n m) refl (λ there. unseen-new ns seen n there k)
  where
    go : (b : Bool) → same_node n m ≡ b → (is_among ns n ≡ true → unseen ns (seen ++ n ∷ []) + 1 ≤ unseen ns seen) → unseen (m ∷ ns) (seen ++ n ∷ []) + 1 ≤ unseen (m ∷ ns) seen
    go true e below =
        let is : m ≡ n = ap (λ (i : ℕ). record { 0 = i }) (sym (eqb-true n.0 m.0 e)) in
        let was : is_among seen m ≡ false = ap (is_among seen) is ∙ k in
        let now : is_among (seen ++ n ∷ []) m ≡ true = is_among-push seen n m ∙ or_right (is_among seen m) (same_node m n || false) (ap (λ (x : NodeIndex). same_node x n || false) is ∙ ap (λ b. b || false) (same_self n)) in
        let rest : unseen ns (seen ++ n ∷ []) ≤ unseen ns seen = unseen-push ns seen n in
        let fine : unseen ns (seen ++ n ∷ []) + 0 + 1 ≤ unseen ns seen + 1 = omega arith in
        rw (now, was) fine
    go false e below =
        let there : is_among ns n ≡ true = sym (ap (λ b. b || is_among ns n) e) ∙ h in
        let rest : unseen ns (seen ++ n ∷ []) + 1 ≤ unseen ns seen = below there in
        let here : cond (is_among (seen ++ n ∷ []) m) 0 1 ≤ cond (is_among seen m) 0 1 = rw (is_among-push seen n m) (fewer (is_among seen m) (same_node m n || false)) in
        omega arith

pub targets_among : {S : Type 0} (es : List (Edge S)) (ns : List NodeIndex) → ((n : NodeIndex) → is_among (map (λ e. e.target) es) n ≡ true → is_among ns n ≡ true) → All (λ e. is_among ns e.target ≡ true) es
targets_among [] ns h = All-nil (λ e. is_among ns e.target ≡ true)
targets_among (e ∷ es) ns h =
    All-cons (λ d. is_among ns d.target ≡ true) e es (h e.target (ap (λ b. b || is_among (map (λ d. d.target) es) e.target) (same_self e.target)))
    (targets_among es ns (λ n k. h n (or_right (same_node n e.target) (is_among (map (λ d. d.target) es) n) k)))

-- the targets of a node's edges are among these, if those of all edges are
pub edges_among : {S : Type 0} (g : Graph S) (us : List NodeIndex) → ((n : NodeIndex) → is_among (map (λ e. e.target) g.edges) n ≡ true → is_among us n ≡ true) → (n : NodeIndex) → All (λ e. is_among us e.target ≡ true) (edges_of g n)
edges_among g us h n =
    All-permutation (λ e. is_among us e.target ≡ true) (filter (leaves n) g.edges) (edges_of g n) (IsPermutation-reverse (filter (leaves n) g.edges))
    (All-filter (leaves n) (λ e. is_among us e.target ≡ true) g.edges (targets_among g.edges us h))

-- the targets of a node's edges were entered
pub edges_entered : {S : Type 0} (g : Graph S) (n : NodeIndex) → All (λ e. is_among (entered g) e.target ≡ true) (edges_of g n)
edges_entered g n = edges_among g (entered g) (λ m h. or_right (same_node m (record { 0 = 0 })) (is_among (map (λ e. e.target) g.edges) m) h) n

-- a node that a step enters is the root, or the target of an edge
abbrev pub IsKnown : List NodeIndex → Step → Type 0
IsKnown ns (Enter n) = is_among ns n ≡ true
IsKnown ns (Leave n) = ⊤

module _ {S : Type 0} (g : Graph S) where
  -- the nodes that a visit of one node lists
  abbrev pub VisitsOne : List NodeIndex → NodeIndex → List NodeIndex → List NodeIndex → Type 0
  VisitsOne seen n given after =
      ((is_among seen n ≡ true) × (given ≡ []) × (after ≡ seen))
      ⊎ ((inner : List NodeIndex) × (is_among seen n ≡ false) × Visits g (seen ++ n ∷ []) (neighbours g n) inner after × (given ≡ inner ++ n ∷ []))

  -- the nodes that the steps list, the top one first
  abbrev pub Continues : List Step → List NodeIndex → List NodeIndex → List NodeIndex → Type 0
  Continues [] seen given after = (given ≡ []) × (after ≡ seen)
  Continues (Leave n ∷ ss) seen given after = (rest : List NodeIndex) × (given ≡ n ∷ rest) × Continues ss seen rest after
  Continues (Enter n ∷ ss) seen given after = (own rest between : List NodeIndex) × VisitsOne seen n own between × Continues ss between rest after × (given ≡ own ++ rest)

  one_more : (seen : List NodeIndex) (n : NodeIndex) (own between : List NodeIndex) (ns rest after : List NodeIndex) → VisitsOne seen n own between → Visits g between ns rest after → Visits g seen (n ∷ ns) (own ++ rest) after
  one_more seen n own between ns rest after (inl h) v = subst (λ xs. Visits g seen (n ∷ ns) (xs ++ rest) after) (sym h.1) (again h.0 (subst (λ xs. Visits g xs ns rest after) h.2 v))
  one_more seen n own between ns rest after (inr h) v = subst (λ xs. Visits g seen (n ∷ ns) xs after) (sym (ap (λ xs. xs ++ rest) h.3 ∙ append_assoc h.0 (n ∷ []) rest)) (first h.1 h.2 v)

  -- the nodes that entering some nodes, then the other steps list
  pub enters_all : (ns : List NodeIndex) (ss : List Step) (seen given after : List NodeIndex) → Continues (map Enter ns ++ ss) seen given after → (own rest between : List NodeIndex) × Visits g seen ns own between × Continues ss between rest after × (given ≡ own ++ rest)
  enters_all [] ss seen given after c = ([], given, seen, done seen, c, refl)
  enters_all (n ∷ ns) ss seen given after c =
      let more = enters_all ns ss c.2 c.1 after c.4 in
      (c.0 ++ more.0, more.1, more.2, one_more seen n c.0 c.2 ns more.0 more.2 c.3 more.3, more.4, c.5 ∙ ap (λ xs. c.0 ++ xs) more.5 ∙ sym (append_assoc c.0 more.0 more.1))

  -- entering a seen node
  pub enters_seen : (n : NodeIndex) (ss : List Step) (seen given after : List NodeIndex) → is_among seen n ≡ true → Continues ss seen given after → Continues (Enter n ∷ ss) seen given after
  enters_seen n ss seen given after h c = ([], given, seen, inl (h, refl, refl), c, refl)

  -- entering a new node: its neighbours, then itself
  pub enters_new : (n : NodeIndex) (ss : List Step) (seen given after : List NodeIndex) → is_among seen n ≡ false → Continues (map Enter (neighbours g n) ++ Leave n ∷ ss) (seen ++ n ∷ []) given after → Continues (Enter n ∷ ss) seen given after
  enters_new n ss seen given after h c =
      let all = enters_all (neighbours g n) (Leave n ∷ ss) (seen ++ n ∷ []) given after c in
      (all.0 ++ n ∷ [], all.4.0, all.2, inr (all.0, h, all.3, refl), all.4.2, all.5 ∙ ap (λ xs. all.0 ++ xs) all.4.1 ∙ sym (append_assoc all.0 (n ∷ []) all.4.0))

  -- the older steps list the remaining nodes of the walk
  abbrev pub Gives : List Step → List NodeIndex → List NodeIndex → Type 0
  Gives stack seen order = (rest after : List NodeIndex) → Continues (reverse stack) seen rest after → Visits g [] (record { 0 = 0 } ∷ []) (order ++ rest) after

  reverse-push : (stack : List Step) (s : Step) → reverse (stack ++ s ∷ []) ≡ s ∷ reverse stack
  reverse-push stack s = reverse-append stack (s ∷ [])

  pub starts : (stack : List Step) (seen order : List NodeIndex) → stack ≡ Enter (record { 0 = 0 }) ∷ [] → seen ≡ [] → order ≡ [] → Gives stack seen order
  starts stack seen order at none empty rest after c =
      let from : Continues (Enter (record { 0 = 0 }) ∷ []) [] rest after = subst (λ xs. Continues (Enter (record { 0 = 0 }) ∷ []) xs rest after) none (subst (λ xs. Continues (reverse xs) seen rest after) at c) in
      let all = enters_all (record { 0 = 0 } ∷ []) [] [] rest after from in
      let whole : all.0 ≡ order ++ rest = sym (append-nil all.0) ∙ ap (λ xs. all.0 ++ xs) (sym all.4.0) ∙ sym all.5 ∙ ap (λ xs. xs ++ rest) (sym empty) in
      subst (λ xs. Visits g [] (record { 0 = 0 } ∷ []) xs after) whole (subst (λ xs. Visits g [] (record { 0 = 0 } ∷ []) all.0 xs) (sym all.4.1) all.3)

  pub enters_old : (stack below : List Step) (seen now order : List NodeIndex) (n : NodeIndex) → Gives stack seen order → stack ≡ below ++ Enter n ∷ [] → is_among seen n ≡ true → now ≡ seen → Gives below now order
  enters_old stack below seen now order n gives at h same rest after c =
      gives rest after (subst (λ xs. Continues xs seen rest after) (sym (ap reverse at ∙ reverse-push below (Enter n))) (enters_seen n (reverse below) seen rest after h (subst (λ xs. Continues (reverse below) xs rest after) same c)))

  reversed : (es : List (Edge S)) → reverse (map (λ e. Enter e.target) (reverse es)) ≡ map Enter (map (λ e. e.target) es)
  reversed [] = refl
  reversed (e ∷ es) =
      ap (λ xs. reverse (map (λ d. Enter d.target) xs)) (reverse-append (e ∷ []) es) ∙ ap reverse (map-append (λ d. Enter d.target) (reverse es) (e ∷ []))
      ∙ reverse-append (map (λ d. Enter d.target) (reverse es)) (Enter e.target ∷ []) ∙ ap (λ xs. Enter e.target ∷ xs) (reversed es)

  pub enters_next : (stack below now : List Step) (seen after_it order : List NodeIndex) (n : NodeIndex) → Gives stack seen order → stack ≡ below ++ Enter n ∷ [] → is_among seen n ≡ false → after_it ≡ seen ++ n ∷ [] → now ≡ (below ++ Leave n ∷ []) ++ map (λ e. Enter e.target) (edges_of g n) → Gives now after_it order
  enters_next stack below now seen after_it order n gives at h with put rest after c =
      let turned : reverse now ≡ map Enter (neighbours g n) ++ Leave n ∷ reverse below = ap reverse put ∙ reverse-append (below ++ Leave n ∷ []) (map (λ e. Enter e.target) (edges_of g n)) ∙ ap (λ xs. xs ++ reverse (below ++ Leave n ∷ [])) (reversed (filter (leaves n) g.edges)) ∙ ap (λ xs. map Enter (neighbours g n) ++ xs) (reverse-push below (Leave n)) in
      let from : Continues (map Enter (neighbours g n) ++ Leave n ∷ reverse below) (seen ++ n ∷ []) rest after = subst (λ xs. Continues xs (seen ++ n ∷ []) rest after) turned (subst (λ xs. Continues (reverse now) xs rest after) with c) in
      gives rest after (subst (λ xs. Continues xs seen rest after) (sym (ap reverse at ∙ reverse-push below (Enter n))) (enters_new n (reverse below) seen rest after h from))

  pub ends : (stack : List Step) (seen order : List NodeIndex) → Gives stack seen order → stack ≡ [] → IsPostOrder g order
  ends stack seen order gives none = (seen, subst (λ xs. Visits g [] (record { 0 = 0 } ∷ []) xs seen) (append-nil order) (gives [] seen (subst (λ xs. Continues (reverse xs) seen [] seen) (sym none) (refl, refl))))

  -- all steps are known after a new node was entered
  pub known_next : (below now : List Step) (n : NodeIndex) → All (IsKnown (entered g)) below → now ≡ (below ++ Leave n ∷ []) ++ map (λ e. Enter e.target) (edges_of g n) → All (IsKnown (entered g)) now
  known_next below now n known put =
      All-same (IsKnown (entered g)) now ((below ++ Leave n ∷ []) ++ map (λ e. Enter e.target) (edges_of g n)) put
      (All-append (IsKnown (entered g)) (below ++ Leave n ∷ []) (map (λ e. Enter e.target) (edges_of g n)) (All-push (IsKnown (entered g)) below (Leave n) known tt)
      (All-map (IsKnown (entered g)) (λ e. Enter e.target) (edges_of g n) (edges_entered g n)))

  few : (n : NodeIndex) → length (edges_of g n) ≤ length g.edges
  few n = rw (length-reverse (filter (leaves n) g.edges), length-filter (leaves n) g.edges) (count_by-le-length (leaves n) g.edges)

  -- the measure falls where a new node is entered
  pub smaller : (below now : List Step) (seen after_it : List NodeIndex) (n : NodeIndex) → is_among (entered g) n ≡ true → is_among seen n ≡ false → after_it ≡ seen ++ n ∷ [] → now ≡ (below ++ Leave n ∷ []) ++ map (λ e. Enter e.target) (edges_of g n)
      → (length g.edges + 2) * unseen (entered g) after_it + length now < (length g.edges + 2) * unseen (entered g) seen + (length below + 1)
  smaller below now seen after_it n known h with put =
      let less : unseen (entered g) after_it + 1 ≤ unseen (entered g) seen = rw with (unseen-new (entered g) seen n known h) in
      let long : length now ≡ length below + 1 + length (edges_of g n) = ap length put ∙ simp (length-append, length-map) (omega arith) in
      let bound : length (edges_of g n) ≤ length g.edges = few n in
      let times : (length g.edges + 2) * (unseen (entered g) after_it + 1) ≤ (length g.edges + 2) * unseen (entered g) seen = mul-le-mul_left (length g.edges + 2) less in
      omega arith

  -- a node is listed
  pub leaves_next : (stack below : List Step) (seen order now : List NodeIndex) (n : NodeIndex) → Gives stack seen order → stack ≡ below ++ Leave n ∷ [] → now ≡ order ++ n ∷ [] → Gives below seen now
  leaves_next stack below seen order now n gives at put rest after c =
      let from : Continues (reverse stack) seen (n ∷ rest) after = subst (λ xs. Continues xs seen (n ∷ rest) after) (sym (ap reverse at ∙ reverse-push below (Leave n))) (rest, refl, c) in
      subst (λ xs. Visits g [] (record { 0 = 0 } ∷ []) xs after) (sym (append_assoc order (n ∷ []) rest) ∙ ap (λ xs. xs ++ rest) (sym put)) (gives (n ∷ rest) after from)

  -- a node is entered, seen or not
  pub enters : (stack below now : List Step) (seen after_it order : List NodeIndex) (n : NodeIndex) → Gives stack seen order → stack ≡ below ++ Enter n ∷ [] → after_it ≡ cond (is_among seen n) seen (seen ++ n ∷ []) → now ≡ below ++ steps_into g seen n → Gives now after_it order
  enters stack below now seen after_it order n gives at = go (is_among seen n) refl
    where
      go : (b : Bool) → is_among seen n ≡ b → after_it ≡ cond b seen (seen ++ n ∷ []) → now ≡ below ++ cond b [] (Leave n ∷ map (λ e. Enter e.target) (edges_of g n)) → Gives now after_it order
      go true h with put = subst (λ ss. Gives ss after_it order) (sym (put ∙ append-nil below)) (enters_old stack below seen after_it order n gives at h with)
      go false h with put = enters_next stack below now seen after_it order n gives at h with (put ∙ sym (append_assoc below (Leave n ∷ []) (map (λ e. Enter e.target) (edges_of g n))))

  pub known_entered : (below now : List Step) (seen : List NodeIndex) (n : NodeIndex) → All (IsKnown (entered g)) below → now ≡ below ++ steps_into g seen n → All (IsKnown (entered g)) now
  known_entered below now seen n known = go (is_among seen n)
    where
      go : (b : Bool) → now ≡ below ++ cond b [] (Leave n ∷ map (λ e. Enter e.target) (edges_of g n)) → All (IsKnown (entered g)) now
      go true put = All-same (IsKnown (entered g)) now below (put ∙ append-nil below) known
      go false put = known_next below now n known (put ∙ sym (append_assoc below (Leave n ∷ []) (map (λ e. Enter e.target) (edges_of g n))))

  pub less_left : (stack below now : List Step) (seen after_it : List NodeIndex) (n : NodeIndex) → stack ≡ below ++ Enter n ∷ [] → is_among (entered g) n ≡ true → after_it ≡ cond (is_among seen n) seen (seen ++ n ∷ []) → now ≡ below ++ steps_into g seen n
      → (length g.edges + 2) * unseen (entered g) after_it + length now < (length g.edges + 2) * unseen (entered g) seen + length stack
  less_left stack below now seen after_it n at known = go (is_among seen n) refl
    where
      long : length stack ≡ length below + 1
      long = ap length at ∙ length-append below (Enter n ∷ [])

      go : (b : Bool) → is_among seen n ≡ b → after_it ≡ cond b seen (seen ++ n ∷ []) → now ≡ below ++ cond b [] (Leave n ∷ map (λ e. Enter e.target) (edges_of g n)) → (length g.edges + 2) * unseen (entered g) after_it + length now < (length g.edges + 2) * unseen (entered g) seen + length stack
      go true h with put =
          let short : length now ≡ length below = ap length (put ∙ append-nil below) in
          let fine : (length g.edges + 2) * unseen (entered g) seen + length now < (length g.edges + 2) * unseen (entered g) seen + length stack = omega (arith, long, short) in
          rw with fine
      go false h with put = rw long (smaller below now seen after_it n known h with (put ∙ sym (append_assoc below (Leave n ∷ []) (map (λ e. Enter e.target) (edges_of g n)))))
