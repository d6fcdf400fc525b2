-- Texts that were appended one after the other.
use Rattle.std.proofs.Common.{◌≡◌, ℕ, List, ◌++◌, ap, ◌∙◌, append_assoc}

pub pushed2 : (o a b x y : List ℕ) → x ≡ o ++ a → y ≡ x ++ b → y ≡ o ++ (a ++ b)
pushed2 o a b x y first second = second ∙ ap (λ (t : List ℕ). t ++ b) first ∙ append_assoc o a b

pub pushed3 : (o a b c x y z : List ℕ) → x ≡ o ++ a → y ≡ x ++ b → z ≡ y ++ c → z ≡ o ++ (a ++ (b ++ c))
pushed3 o a b c x y z p q r = pushed2 o (a ++ b) c y z (pushed2 o a b x y p q) r ∙ ap (λ (t : List ℕ). o ++ t) (append_assoc a b c)

pub pushed5 : (o a b c d e v w x y z : List ℕ) → v ≡ o ++ a → w ≡ v ++ b → x ≡ w ++ c → y ≡ x ++ d → z ≡ y ++ e → z ≡ o ++ (a ++ (b ++ (c ++ (d ++ e))))
pushed5 o a b c d e v w x y z p q r s t =
    pushed3 o (a ++ (b ++ c)) d e x y z (pushed3 o a b c v w x p q r) s t
    ∙ ap (λ (l : List ℕ). o ++ l) (append_assoc a (b ++ c) (d ++ e) ∙ ap (λ (l : List ℕ). a ++ l) (append_assoc b c (d ++ e)))

pub pushed6 : (o a b c d e f u v w x y z : List ℕ) → u ≡ o ++ a → v ≡ u ++ b → w ≡ v ++ c → x ≡ w ++ d → y ≡ x ++ e → z ≡ y ++ f → z ≡ o ++ (a ++ (b ++ (c ++ (d ++ (e ++ f)))))
pushed6 o a b c d e f u v w x y z p q r s t n =
    pushed2 o (a ++ (b ++ (c ++ (d ++ e)))) f y z (pushed5 o a b c d e u v w x y p q r s t) n
    ∙ ap (λ (l : List ℕ). o ++ l) (append_assoc a (b ++ (c ++ (d ++ e))) f ∙ ap (λ (l : List ℕ). a ++ l) (append_assoc b (c ++ (d ++ e)) f ∙ ap (λ (l : List ℕ). b ++ l) (append_assoc c (d ++ e) f ∙ ap (λ (l : List ℕ). c ++ l) (append_assoc d e f))))
