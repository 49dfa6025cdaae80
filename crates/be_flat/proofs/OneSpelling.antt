-- A message has one spelling.
use Rattle.std.proofs.Common.{◌≡◌, ℕ, ℤ, List, ◌∷◌, ◌++◌, length, refl, sym, ap, ◌∙◌}
use Rattle.std.specs.Int.{w32, to_le_bytes}
use Rattle.be_message.specs.declared.kind.Kind.{Kind}
use Rattle.be_message.specs.Messages.{Datum, bool, int, text, point, rect, message, Fields, no_fields, field, Values, no_values, value, Message, packed}
use Rattle.be_message.specs.Sound.{field_count, value_count}
use Rattle.be_flat.specs.Codes.{code_of}
use Rattle.be_flat.specs.Grammar.{SpellsPoint, SpellsDatum, SpellsFields, SpellsValues, Spells}

both : (a b c d : List ℕ) → a ≡ c → b ≡ d → a ++ b ≡ c ++ d
both a b c d p q = rw (p, q) refl

one_point : (x y : ℤ) (a b : List ℕ) → SpellsPoint a x y → SpellsPoint b x y → a ≡ b
one_point x y a b (a1, a2, a_is, ax, ay) (b1, b2, b_is, bx, by') = a_is ∙ both a1 a2 b1 b2 (ax.1 ∙ sym bx.1) (ay.1 ∙ sym by'.1) ∙ sym b_is

mutual
  one_datum : (d : Datum) (a b : List ℕ) → SpellsDatum a d → SpellsDatum b d → a ≡ b
  one_datum (bool v) a b p q = p ∙ sym q
  one_datum (int z) a b p q = p.1 ∙ sym q.1
  one_datum (text t) a b p q = p.1 ∙ sym q.1
  one_datum (point v) a b p q = one_point v.x v.y a b p q
  one_datum (rect r) a b (a1, a2, a_is, p1, p2) (b1, b2, b_is, q1, q2) =
      a_is ∙ both a1 a2 b1 b2 (one_point r.left r.top a1 b1 p1 q1) (one_point r.right r.bottom a2 b2 p2 q2) ∙ sym b_is
  one_datum (message what fs) a b (_, _, a1, a_is, p) (_, _, b1, b_is, q) =
      a_is ∙ ap (λ (t : List ℕ). to_le_bytes w32 what ++ field_count fs ∷ t) (one_fields fs a1 b1 p q) ∙ sym b_is

  one_fields : (fs : Fields) (a b : List ℕ) → SpellsFields a fs → SpellsFields b fs → a ≡ b
  one_fields no_fields a b p q = p ∙ sym q
  one_fields (field name k vs fs) a b (_, _, _, _, a1, a2, a_is, p1, p2) (_, _, _, _, b1, b2, b_is, q1, q2) =
      a_is
      ∙ both ((code_of k ++ length name ∷ name) ++ value_count vs ∷ a1) a2 ((code_of k ++ length name ∷ name) ++ value_count vs ∷ b1) b2
      (ap (λ (t : List ℕ). (code_of k ++ length name ∷ name) ++ value_count vs ∷ t) (one_values vs k a1 b1 p1 q1)) (one_fields fs a2 b2 p2 q2)
      ∙ sym b_is

  one_values : (vs : Values) (k : Kind) (a b : List ℕ) → SpellsValues k a vs → SpellsValues k b vs → a ≡ b
  one_values no_values k a b p q = p ∙ sym q
  one_values (value d vs) k a b (_, a1, a2, a_is, p1, p2) (_, b1, b2, b_is, q1, q2) = a_is ∙ both a1 a2 b1 b2 (one_datum d a1 b1 p1 q1) (one_values vs k a2 b2 p2 q2) ∙ sym b_is

pub one_spelling : (a b : List ℕ) (m : Message) → Spells a m → Spells b m → a ≡ b
one_spelling a b m p q = one_datum (packed m) a b p.parts q.parts
