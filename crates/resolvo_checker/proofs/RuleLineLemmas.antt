-- Rules and the lines that they encode.
use Rattle.std.proofs.Common.{◌≡◌, Bool, true, false, List, [], Option, Some, None, refl, sym, ap, cond}
use Rattle.std.proofs.lemmas.Bool.{false≢true}
use Rattle.resolvo_text.specs.Line.{Version, Line, Skipped, Listed, Needs, Limits, Unknown, Lock, Favour, Exclude, Many, Wish}
use Rattle.resolvo_catalogue_core.specs.Questions.{IsRuleLine, IsOwner, is_rule}
use Rattle.resolvo_catalogue_core.specs.declared.rule.VersionNo.{VersionNo}
use Rattle.resolvo_catalogue_core.specs.declared.rule.Rule.{Rule}
use Rattle.resolvo_catalogue_core.specs.declared.rule.Rule.TheVariants as rule
use Rattle.resolvo_checker.specs.RuleLines.{line_of_rule, rule_line, is_owned, owned_line, owner_in}

-- a line without a rule
no_rule_owned : (l : Line) → is_rule l ≡ false → is_owned l ≡ false
no_rule_owned Skipped h = refl
no_rule_owned (Listed v) h = refl
no_rule_owned (Favour v) h = refl
no_rule_owned (Many name) h = refl
no_rule_owned (Wish v) h = refl
no_rule_owned (Unknown r) h = refl
no_rule_owned (Lock v) h = refl
no_rule_owned (Exclude v r) h = refl
no_rule_owned (Needs a c) h = absurd (false≢true (sym h))
no_rule_owned (Limits s) h = absurd (false≢true (sym h))

pub none_encoded : (o : Option Line) → ((l : Line) → o ≡ Some l → is_rule l ≡ false) → rule_line o ≡ None
none_encoded None h = refl
none_encoded (Some l) h = ap (λ b. cond b (Some l) None) (h l refl)

pub none_owned : (o : Option Line) → ((l : Line) → o ≡ Some l → is_rule l ≡ false) → owned_line o ≡ None
none_owned None h = refl
none_owned (Some l) h = ap (λ b. cond b (Some l) None) (no_rule_owned l (h l refl))

pub none_owned_by : (b : Bool) (o : Option Line) → ((l : Line) → o ≡ Some l → is_rule l ≡ false) → owned_line (cond b o None) ≡ None
none_owned_by true o h = none_owned o h
none_owned_by false o h = refl

-- a rule of a request has no owner
pub request_rule_encodes : (vs : List Version) (r : Rule) (l : Line) → ((versions : List Version) → IsRuleLine versions r None l) → owned_line (Some l) ≡ line_of_rule vs r
request_rule_encodes vs (rule.Needs of a c) l s = ap (λ x. owned_line (Some x)) (s []).0
request_rule_encodes vs (rule.Limits of x) l s = ap (λ x. owned_line (Some x)) (s []).0
request_rule_encodes vs (rule.Unknown of w) l s = absurd (let t = (s []).1 in let k : None ≡ Some t.0 = t.2 in cc)
request_rule_encodes vs (rule.Lock n) l s = absurd (let t = s [] in let k : None ≡ Some t.0 = t.1 in cc)
request_rule_encodes vs (rule.Exclude n w) l s = absurd (let t = s [] in let k : None ≡ Some t.0 = t.1 in cc)

no_owner : (of : Option VersionNo) → IsOwner [] of None → of ≡ None
no_owner None h = refl
no_owner (Some n) h = absurd (let k : None ≡ Some h.0 = h.2 in cc)

pub request_rule_unowned : (r : Rule) (l : Line) → ((versions : List Version) → IsRuleLine versions r None l) → owner_in r ≡ None
request_rule_unowned (rule.Needs of a c) l s = no_owner of (s []).1
request_rule_unowned (rule.Limits of x) l s = no_owner of (s []).1
request_rule_unowned (rule.Unknown of w) l s = refl
request_rule_unowned (rule.Lock n) l s = refl
request_rule_unowned (rule.Exclude n w) l s = refl
