use Rattle.std.proofs.Common.{◌≡◌, ap, map, ◌∙◌}
use Rattle.std.specs.Prelude.{bytes_eq}
use Rattle.std.specs.String.{string_bytes}
use Rattle.indexmap.specs.IndexSet.{insert_key}
use Rattle.resolvo_intern.proofs.Interned.{place_of_text, texts_with}
use Rattle.resolvo_intern.proofs.pool.Pool.intern_string.Goals as goal

pub returns-clause-id : goal.returns-clause-id
returns-clause-id g c = ap (λ s. s.0) c.from_index.ensures ∙ place_of_text c.self.inside.strings.keys c.in_ok-text.text _ _ c.in_ok-index.index c.in_ok-text.ensures.ok (ap (λ v. v.strings) c.self.view_is) c.in_ok-index.ensures.index

pub returns-clause-put : goal.returns-clause-put
returns-clause-put g c =
    let texts : map string_bytes c.index_of_new.new.keys.keys ≡ insert_key bytes_eq c.args.self.now.strings c.args.text.now = texts_with c.self.inside.strings.keys c.index_of_new.new.keys.keys c.in_ok-text.text _ _ c.in_ok-text.ensures.ok (ap (λ v. v.strings) c.self.view_is) c.in_ok-index.ensures.put in
    λ i. record { names = (c.self.view_is i).names; strings = texts i; solvables = (c.self.view_is i).solvables; version_sets = (c.self.view_is i).version_sets; unions = (c.self.view_is i).unions; conditions = (c.self.view_is i).conditions }
