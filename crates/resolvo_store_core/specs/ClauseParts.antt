-- The parts of a clause's literals: those that it names itself, those of a list, those of candidates.
use Rattle.std.specs.Prelude.{List, [], ◌∷◌}
use Rattle.resolvo_store_core.specs.Signed.{Signed}
use Rattle.resolvo_store_core.specs.declared.lists.FixedLists.{FixedLists}
use Rattle.resolvo_store_core.specs.Lists.{candidates_in, condition_in, learnt_in}
use Rattle.resolvo_store_core.specs.Clauses.{yes, no, root, candidate_literals}
use Rattle.resolvo_store_core.specs.declared.store_clause.Clause.{Clause}
use Rattle.resolvo_store_core.specs.declared.store_clause.Clause.TheVariants.{InstallRoot, Requires, ForbidMultipleInstances, Constrains, ConstrainsParent, ConstrainsExcluded, Lock, Learnt, Excluded, AnyOf}

abbrev pub own_literals_of : {N : Type 0} → Clause N → List Signed
own_literals_of InstallRoot = yes root ∷ []
own_literals_of (Requires p d r) = no p ∷ []
own_literals_of (ForbidMultipleInstances v l n) = no v ∷ l ∷ []
own_literals_of (Constrains p c s) = no p ∷ no c ∷ []
own_literals_of (ConstrainsParent p x s) = no p ∷ no x ∷ []
own_literals_of (ConstrainsExcluded c x s) = no c ∷ yes x ∷ []
own_literals_of (Lock l o) = no root ∷ no o ∷ []
own_literals_of (Learnt l) = []
own_literals_of (Excluded v s) = no v ∷ []
own_literals_of (AnyOf x v) = yes x ∷ no v ∷ []

abbrev pub listed_literals_of : {N : Type 0} → FixedLists N → Clause N → List Signed
listed_literals_of ls InstallRoot = []
listed_literals_of ls (Requires p d r) = condition_in ls d
listed_literals_of ls (ForbidMultipleInstances v l n) = []
listed_literals_of ls (Constrains p c s) = []
listed_literals_of ls (ConstrainsParent p x s) = []
listed_literals_of ls (ConstrainsExcluded c x s) = []
listed_literals_of ls (Lock l o) = []
listed_literals_of ls (Learnt l) = learnt_in ls l
listed_literals_of ls (Excluded v s) = []
listed_literals_of ls (AnyOf x v) = []

abbrev pub candidate_literals_of : {N : Type 0} → FixedLists N → Clause N → List Signed
candidate_literals_of ls InstallRoot = []
candidate_literals_of ls (Requires p d r) = candidate_literals (candidates_in ls r)
candidate_literals_of ls (ForbidMultipleInstances v l n) = []
candidate_literals_of ls (Constrains p c s) = []
candidate_literals_of ls (ConstrainsParent p x s) = []
candidate_literals_of ls (ConstrainsExcluded c x s) = []
candidate_literals_of ls (Lock l o) = []
candidate_literals_of ls (Learnt l) = []
candidate_literals_of ls (Excluded v s) = []
candidate_literals_of ls (AnyOf x v) = []
