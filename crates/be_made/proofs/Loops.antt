-- Texts that are written one after the other.
use Rattle.std.proofs.Common.{◌≡◌, ℕ, suc, ◌+◌, ◌<◌, ◌≤◌, List, ◌++◌, sym, ap, ◌∙◌}
use Rattle.std.proofs.Common.{arith}
use Rattle.std.specs.Prelude.{◌-◌}
use Rattle.std.proofs.lemmas.List.{append_assoc, append-nil}
use Rattle.be_made.specs.Drawing.{Drawn, IsWritten, ◌>>-◌, always, texts_from}

-- of n texts i are written, and with the rest they are all
pub record Remains (text : ℕ → Drawn (List ℕ)) (n i first now : ℕ) (before here : List ℕ)
    : Type 0 where
  pub some : i ≤ n
  pub texts : here ++ (texts_from text i (n - i) now).0 ≡ before ++ (texts_from text 0 n first).0
  pub drawn : (texts_from text i (n - i) now).1 ≡ (texts_from text 0 n first).1

module _ (text : ℕ → Drawn (List ℕ)) (n first : ℕ) (before : List ℕ) where
  pub begun : Remains text n 0 first first before before
  begun =
      let all : n - 0 ≡ n = omega arith in
      record {
        some = omega arith;
        texts = ap (λ k. before ++ (texts_from text 0 k first).0) all;
        drawn = ap (λ k. (texts_from text 0 k first).1) all;
      }

  module _ (i now : ℕ) (here : List ℕ) (left : Remains text n i first now before here) where
    pub goes_on : (next : ℕ) (after : List ℕ) → i < n → IsWritten (text i) now next here after
        → Remains text n (i + 1) first next before after
    unfolding texts_from
    goes_on next after more is =
        let rest : ℕ = n - (i + 1) in
        let one : n - i ≡ suc rest = omega arith in
        let is_text : here ++ ((text i now).0 ++ (texts_from text (i + 1) rest (text i now).1).0)
        ≡ before ++ (texts_from text 0 n first).0 =
        sym (ap (λ k. here ++ (texts_from text i k now).0) one) ∙ left.texts in
        let is_drawn : (texts_from text (i + 1) rest (text i now).1).1
        ≡ (texts_from text 0 n first).1 =
        sym (ap (λ k. (texts_from text i k now).1) one) ∙ left.drawn in
        record {
          some = omega arith;
          texts =
              ap (λ t. t ++ (texts_from text (i + 1) rest next).0) is.text
              ∙ ap (λ x. (here ++ (text i now).0) ++ (texts_from text (i + 1) rest x).0) is.drawn
              ∙ append_assoc here (text i now).0 (texts_from text (i + 1) rest (text i now).1).0
              ∙ is_text;
          drawn = ap (λ x. (texts_from text (i + 1) rest x).1) is.drawn ∙ is_drawn;
        }

    pub ended : n ≤ i → IsWritten (texts_from text 0 n) first now before here
    unfolding texts_from
    ended all =
        let none : n - i ≡ 0 = omega arith in
        record {
          text =
              sym (append-nil here) ∙ sym (ap (λ k. here ++ (texts_from text i k now).0) none)
              ∙ left.texts;
          drawn = sym (ap (λ k. (texts_from text i k now).1) none) ∙ left.drawn;
        }

-- four such texts behind a front
module _ (one two three four : ℕ → Drawn (List ℕ)) (a b c d : ℕ) (front : List ℕ)
    (n last x y z end : ℕ) (t u v w new : List ℕ) where
  pub all_written : last ≡ n → t ≡ front → IsWritten (texts_from one 0 a) last x t u
      → IsWritten (texts_from two 0 b) x y u v → IsWritten (texts_from three 0 c) y z v w
      → IsWritten (texts_from four 0 d) z end w new
      → new ≡ ((texts_from one 0 a >>- λ first. texts_from two 0 b >>- λ second.
      texts_from three 0 c >>- λ third. texts_from four 0 d >>- λ fourth.
      always (front ++ first ++ second ++ third ++ fourth)) n).0
  all_written start begun first second third fourth =
      let first_text = first.text in
      let first_drawn = first.drawn in
      let second_text = second.text in
      let second_drawn = second.drawn in
      let third_text = third.text in
      let third_drawn = third.drawn in
      let fourth_text = fourth.text in
      cc
