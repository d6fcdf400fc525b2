-- The needs of lines as they are lent, and the spans of their SPECs.
use Rattle.std.specs.Prelude.{◌≡◌, ⊤, List, Option, Some, None}
use Rattle.resolvo_text.specs.Line.{Version, Spec, Cond, Line, Needs}
use Rattle.resolvo_text.specs.View.{specs_of, condition_of}
use Rattle.resolvo_terms.specs.Known.{need_at}
use Rattle.resolve_order.specs.Kept.{first_of}
use Rattle.resolve_order.specs.declared.need.Need.{Need}
use Rattle.resolve_order.specs.declared.need.Need.TheVariants as need
use Rattle.resolve_order.specs.declared.need.PackageSpan.{PackageSpan}

abbrev pub alternatives_in : Need → List Spec
alternatives_in (need.Text alternatives condition) = specs_of alternatives.now
alternatives_in (need.Numbered kept what) = (need_at kept.terms what).0

abbrev pub condition_in : Need → Option Cond
condition_in (need.Text alternatives condition) = condition_of condition.now
condition_in (need.Numbered kept what) = (need_at kept.terms what).1

-- Its numbers are those of the catalogue's lines.
abbrev pub IsOf : List Line → Need → Type 0
IsOf catalogue (need.Text alternatives condition) = ⊤
IsOf catalogue (need.Numbered kept what) = kept.lines ≡ catalogue

abbrev pub IsOfAll : List Line → Option Need → Type 0
IsOfAll catalogue None = ⊤
IsOfAll catalogue (Some n) = IsOf catalogue n

-- It has the span of the SPEC, and the package of its name.
abbrev pub IsSpanOf : List Version → Spec → PackageSpan → Type 0
IsSpanOf versions s p = (p.«package» ≡ first_of versions s.name) × (p.span ≡ s.span)

abbrev pub IsSpanAt : List Version → Option Spec → Option PackageSpan → Type 0
IsSpanAt versions None None = ⊤
IsSpanAt versions None (Some p) = ⊥
IsSpanAt versions (Some s) None = ⊥
IsSpanAt versions (Some s) (Some p) = IsSpanOf versions s p

-- The line is this need, or it is none.
abbrev pub IsNeedAt : Option Line → Option Need → Type 0
IsNeedAt line None = (alternatives : List Spec) (condition : Option Cond) → line ≡ Some (Needs alternatives condition) → ⊥
IsNeedAt line (Some n) = line ≡ Some (Needs (alternatives_in n) (condition_in n))
