use Rattle.std.proofs.Common.{◌≡◌, ◌++◌, take, map}
use Rattle.resolvo_packages.specs.Forbidden.{excluded_by}
use Rattle.resolvo_packages.proofs.cached_packages.add_excluded.Given as goal

-- the excluded ones so far follow the others
abbrev pub invariant-loop-one : goal.invariant-loop-one
invariant-loop-one g l = l.forbidden.items ≡ l.initial.forbidden.items ++ map excluded_by (take l.one-index l.excluded)
