-- What is read is spelt so.
use Rattle.std.proofs.Common.{◌≡◌, ℕ, zero, suc, ◌<◌, ◌≤◌, Bool, false, List, [], ◌∷◌, ◌++◌, length, Result, Ok, Err, refl, sym, ap, subst, ◌∙◌, append_assoc, arith}
use Rattle.std.specs.Prelude.{nat_lt, IfOk}
use Rattle.std.specs.Int.{w32, to_le_bytes}
use Rattle.std.specs.List.{list_any}
use Rattle.std.proofs.lemmas.Bool.{leb-true}
use Rattle.std.proofs.lemmas.List.{append-nil}
use Rattle.be_message.specs.declared.kind.Kind.{Kind}
use Rattle.be_message.specs.declared.kind.Kind.TheVariants as kind
use Rattle.be_message.specs.Depths.{datum_depth, fields_depth, values_depth, depth_of}
use Rattle.be_message.specs.Fields.{has_name, with_value}
use Rattle.be_message.specs.Messages.{Datum, message, Fields, no_fields, field, Values, no_values, value, Field, Message, values_of, fields_of, packed}
use Rattle.be_message.specs.Sound.{kind_of, field_count, value_count}
use Rattle.be_flat.specs.declared.fault.FlatError.{FlatError}
use Rattle.be_flat.specs.Codes.{code_of}
use Rattle.be_flat.specs.Grammar.{SpellsDatum, SpellsFields, SpellsValues, Spells}
use Rattle.be_flat.specs.Reading.{Rest, Read, ◌>>=◌, byte_at, byte_that, u32_at, value_at, value_into, so_many, kind_at, name_at, field_into, message_at, whole, reading, Gives}
use Rattle.be_flat.proofs.Taken.{IsBytes, bind_ok, Takes-then, takes_nothing, byte_takes, that_takes}
use Rattle.be_flat.proofs.Numbers.{TakesPart, TakesValue, bool_takes, int_takes, text_takes, point_takes, rect_takes, u32_takes}
use Rattle.be_flat.proofs.TypeCodes.{code_takes}
use Rattle.be_flat.proofs.FieldNames.{name_takes}
use Rattle.be_flat.proofs.Lists.{fields_again, AreNew, new_to_fewer, first_added, more_added}
use Rattle.be_flat.proofs.Truths.{ok_is}

-- ---- values

-- what reads a message within a message takes a spelling of it, in which messages lie at most so deep
abbrev pub TakesMessages : (Rest → Read Message) → ℕ → Type 0
TakesMessages inner levels =
    (s : Rest) (x : Message × Rest) → IsBytes s.bytes → inner s ≡ Ok x → TakesPart s.bytes x.1.bytes (λ t. SpellsDatum t (packed x.0)) × (depth_of x.0 ≤ levels)

pub record TakesDatum (k : Kind) (levels : ℕ) (bytes : List ℕ) (d : Datum) (left : List ℕ) : Type 0 where
  pub kind : kind_of d ≡ k
  pub depth : datum_depth d ≤ levels
  pub part : TakesPart bytes left (λ t. SpellsDatum t d)

flat : (k : Kind) (levels : ℕ) (bytes : List ℕ) (d : Datum) (left : List ℕ) → TakesValue k bytes d left → TakesDatum k levels bytes d left
flat k levels bytes d left t = record { kind = t.kind; depth = omega (arith, t.flat); part = t.part }

value_takes : (inner : Rest → Read Message) (levels : ℕ) → TakesMessages inner levels → (k : Kind) (s : Rest) (x : Datum × Rest) → IsBytes s.bytes → value_at inner k s ≡ Ok x → TakesDatum k levels s.bytes x.0 x.1.bytes
unfolding value_at
value_takes inner levels h kind.Bool s x fits e = flat kind.Bool levels s.bytes x.0 x.1.bytes (bool_takes s x fits e)
value_takes inner levels h kind.Int s x fits e = flat kind.Int levels s.bytes x.0 x.1.bytes (int_takes s x fits e)
value_takes inner levels h kind.Text s x fits e = flat kind.Text levels s.bytes x.0 x.1.bytes (text_takes s x fits e)
value_takes inner levels h kind.Point s x fits e = flat kind.Point levels s.bytes x.0 x.1.bytes (point_takes s x fits e)
value_takes inner levels h kind.Rect s x fits e = flat kind.Rect levels s.bytes x.0 x.1.bytes (rect_takes s x fits e)
value_takes inner levels h kind.Message s x fits e =
    let m = bind_ok (inner s) (λ m. Ok (packed m.0, m.1)) x e in
    let t = h s m.0 fits m.1 in
    subst (λ (y : Datum × Rest). TakesDatum kind.Message levels s.bytes y.0 y.1.bytes) (ok_is (packed m.0.0, m.0.1) x m.2) (record { kind = refl; depth = t.1; part = t.0 })

-- the values of a field, added behind those that it has
pub record TakesValues (k : Kind) (levels n : ℕ) (what : ℕ) (done : List Field) (f : Field) (bytes : List ℕ) (m : Message) (left : List ℕ) : Type 0 where
  pub values : Values
  pub made : m ≡ record { what = what; fields = done ++ record f { values = f.values ++ values_of values } ∷ [] }
  pub count : value_count values ≡ n
  pub depth : values_depth values ≤ levels
  pub part : TakesPart bytes left (λ t. SpellsValues k t values)

more_take : (inner : Rest → Read Message) (levels : ℕ) → TakesMessages inner levels → (k : Kind) (n what : ℕ) (done : List Field) (f : Field) (s : Rest) (x : Message × Rest) → IsBytes s.bytes
    → list_any (has_name f.name) done ≡ false → so_many (value_into inner k f.name) n (record { what = what; fields = done ++ f ∷ [] }) s ≡ Ok x
    → TakesValues k levels n what done f s.bytes x.0 x.1.bytes
unfolding so_many value_into
more_take inner levels h k zero what done f s x fits free e =
    let m : Message = record { what = what; fields = done ++ f ∷ [] } in
    subst (λ (y : Message × Rest). TakesValues k levels 0 what done f s.bytes y.0 y.1.bytes) (ok_is (m, s) x e)
    (record {
      values = no_values;
      made = ap (λ (ds : List Datum). record { what = what; fields = done ++ record f { values = ds } ∷ [] }) (sym (append-nil f.values));
      count = refl;
      depth = omega arith;
      part = record { text = []; spelt = refl; took = takes_nothing s.bytes fits };
    })
more_take inner levels h k (suc n) what done f s x fits free e =
    let m : Message = record { what = what; fields = done ++ f ∷ [] } in
    let a = bind_ok (value_at inner k s >>= λ d. Ok (with_value m f.name d.0, d.1)) (λ y. so_many (value_into inner k f.name) n y.0 y.1) x e in
    let d = bind_ok (value_at inner k s) (λ d. Ok (with_value m f.name d.0, d.1)) a.0 a.1 in
    let t = value_takes inner levels h k s d.0 fits d.1 in
    let g : Field = record f { values = f.values ++ d.0.0 ∷ [] } in
    let step : (with_value m f.name d.0.0, d.0.1) ≡ a.0 = ok_is (with_value m f.name d.0.0, d.0.1) a.0 d.2 in
    let rest : so_many (value_into inner k g.name) n (record { what = what; fields = done ++ g ∷ [] }) d.0.1 ≡ Ok x =
    subst (λ (q : Message). so_many (value_into inner k f.name) n q d.0.1 ≡ Ok x) (more_added what done f d.0.0 free)
    (subst (λ (y : Message × Rest). so_many (value_into inner k f.name) n y.0 y.1 ≡ Ok x) (sym step) a.2) in
    let others = more_take inner levels h k n what done g d.0.1 x t.part.took.fits free rest in
    record {
      values = value d.0.0 others.values;
      made = others.made ∙ ap (λ (ds : List Datum). record { what = what; fields = done ++ record f { values = ds } ∷ [] }) (append_assoc f.values (d.0.0 ∷ []) (values_of others.values));
      count = ap suc others.count;
      depth = omega (arith, t.depth, others.depth);
      part = record {
        text = t.part.text ++ others.part.text;
        spelt = (t.kind, t.part.text, others.part.text, refl, t.part.spelt, others.part.spelt);
        took = Takes-then s.bytes t.part.text d.0.1.bytes others.part.text x.1.bytes t.part.took others.part.took;
      };
    }

-- the values of a new field
pub record TakesField (k : Kind) (name : List ℕ) (levels n : ℕ) (what : ℕ) (done : List Field) (bytes : List ℕ) (m : Message) (left : List ℕ) : Type 0 where
  pub values : Values
  pub made : m ≡ record { what = what; fields = done ++ record { name = name; kind = k; values = values_of values } ∷ [] }
  pub count : value_count values ≡ n
  pub depth : values_depth values ≤ levels
  pub part : TakesPart bytes left (λ t. SpellsValues k t values)

pub all_take : (inner : Rest → Read Message) (levels : ℕ) → TakesMessages inner levels → (k : Kind) (name : List ℕ) (n what : ℕ) (done : List Field) (s : Rest) (x : Message × Rest) → IsBytes s.bytes
    → 0 < n → list_any (has_name name) done ≡ false → so_many (value_into inner k name) n (record { what = what; fields = done }) s ≡ Ok x
    → TakesField k name levels n what done s.bytes x.0 x.1.bytes
unfolding so_many value_into
all_take inner levels h k name zero what done s x fits some free e = absurd (omega (arith, some))
all_take inner levels h k name (suc n) what done s x fits some free e =
    let m : Message = record { what = what; fields = done } in
    let a = bind_ok (value_at inner k s >>= λ d. Ok (with_value m name d.0, d.1)) (λ y. so_many (value_into inner k name) n y.0 y.1) x e in
    let d = bind_ok (value_at inner k s) (λ d. Ok (with_value m name d.0, d.1)) a.0 a.1 in
    let t = value_takes inner levels h k s d.0 fits d.1 in
    let g : Field = record { name = name; kind = k; values = d.0.0 ∷ [] } in
    let step : (with_value m name d.0.0, d.0.1) ≡ a.0 = ok_is (with_value m name d.0.0, d.0.1) a.0 d.2 in
    let first : with_value m name d.0.0 ≡ record { what = what; fields = done ++ g ∷ [] } =
    first_added what done name d.0.0 free ∙ ap (λ (q : Kind). record { what = what; fields = done ++ record { name = name; kind = q; values = d.0.0 ∷ [] } ∷ [] }) t.kind in
    let rest : so_many (value_into inner k g.name) n (record { what = what; fields = done ++ g ∷ [] }) d.0.1 ≡ Ok x =
    subst (λ (q : Message). so_many (value_into inner k name) n q d.0.1 ≡ Ok x) first
    (subst (λ (y : Message × Rest). so_many (value_into inner k name) n y.0 y.1 ≡ Ok x) (sym step) a.2) in
    let others = more_take inner levels h k n what done g d.0.1 x t.part.took.fits free rest in
    record {
      values = value d.0.0 others.values;
      made = others.made;
      count = ap suc others.count;
      depth = omega (arith, t.depth, others.depth);
      part = record {
        text = t.part.text ++ others.part.text;
        spelt = (t.kind, t.part.text, others.part.text, refl, t.part.spelt, others.part.spelt);
        took = Takes-then s.bytes t.part.text d.0.1.bytes others.part.text x.1.bytes t.part.took others.part.took;
      };
    }

-- ---- fields

-- so many fields, added behind those that the message has
pub record TakesFields (levels n : ℕ) (what : ℕ) (done : List Field) (bytes : List ℕ) (m : Message) (left : List ℕ) : Type 0 where
  pub fields : Fields
  pub made : m ≡ record { what = what; fields = done ++ fields_of fields }
  pub count : field_count fields ≡ n
  pub new : AreNew done fields
  pub depth : fields_depth fields ≤ levels
  pub part : TakesPart bytes left (λ t. SpellsFields t fields)

fields_take : (inner : Rest → Read Message) (nested : Bool) (levels : ℕ) → TakesMessages inner levels → (n what : ℕ) (done : List Field) (s : Rest) (x : Message × Rest) → IsBytes s.bytes
    → so_many (field_into inner nested) n (record { what = what; fields = done }) s ≡ Ok x → TakesFields levels n what done s.bytes x.0 x.1.bytes
unfolding so_many field_into
fields_take inner nested levels h zero what done s x fits e =
    let m : Message = record { what = what; fields = done } in
    subst (λ (y : Message × Rest). TakesFields levels 0 what done s.bytes y.0 y.1.bytes) (ok_is (m, s) x e)
    (record {
      fields = no_fields;
      made = ap (λ (fs : List Field). record { what = what; fields = fs }) (sym (append-nil done));
      count = refl;
      new = tt;
      depth = omega arith;
      part = record { text = []; spelt = refl; took = takes_nothing s.bytes fits };
    })
fields_take inner nested levels h (suc n) what done s x fits e =
    let m : Message = record { what = what; fields = done } in
    let a = bind_ok (kind_at nested s >>= λ k. name_at m k.1 >>= λ name. byte_that (λ n. nat_lt 0 n) name.1 >>= λ n. so_many (value_into inner k.0 name.0) n.0 m n.1)
    (λ y. so_many (field_into inner nested) n y.0 y.1) x e in
    let k = bind_ok (kind_at nested s) (λ k. name_at m k.1 >>= λ name. byte_that (λ n. nat_lt 0 n) name.1 >>= λ n. so_many (value_into inner k.0 name.0) n.0 m n.1) a.0 a.1 in
    let name = bind_ok (name_at m k.0.1) (λ name. byte_that (λ n. nat_lt 0 n) name.1 >>= λ n. so_many (value_into inner k.0.0 name.0) n.0 m n.1) a.0 k.2 in
    let c = bind_ok (byte_that (λ n. nat_lt 0 n) name.0.1) (λ n. so_many (value_into inner k.0.0 name.0.0) n.0 m n.1) a.0 name.2 in
    let tk = code_takes nested s k.0 fits k.1 in
    let tname = name_takes m k.0.1 name.0 tk.0.fits name.1 in
    let tc = that_takes (λ n. nat_lt 0 n) name.0.1 c.0 tname.took.fits c.1 in
    let some : 0 < c.0.0 = leb-true 1 c.0.0 tc.2 in
    let tv = all_take inner levels h k.0.0 name.0.0 c.0.0 what done c.0.1 a.0 tc.0.fits some tname.free c.2 in
    let g : Field = record { name = name.0.0; kind = k.0.0; values = values_of tv.values } in
    let rest : so_many (field_into inner nested) n (record { what = what; fields = done ++ g ∷ [] }) a.0.1 ≡ Ok x =
    subst (λ (q : Message). so_many (field_into inner nested) n q a.0.1 ≡ Ok x) tv.made a.2 in
    let others = fields_take inner nested levels h n what (done ++ g ∷ []) a.0.1 x tv.part.took.fits rest in
    let new = new_to_fewer done g others.fields others.new in
    let code : List ℕ = code_of k.0.0 in
    let title : List ℕ = length name.0.0 ∷ name.0.0 in
    let b1 = Takes-then c.0.1.bytes tv.part.text a.0.1.bytes others.part.text x.1.bytes tv.part.took others.part.took in
    let b2 = Takes-then name.0.1.bytes (c.0.0 ∷ []) c.0.1.bytes (tv.part.text ++ others.part.text) x.1.bytes tc.0 b1 in
    let b3 = Takes-then k.0.1.bytes title name.0.1.bytes ((c.0.0 ∷ tv.part.text) ++ others.part.text) x.1.bytes tname.took b2 in
    let b4 = Takes-then s.bytes code k.0.1.bytes (title ++ ((c.0.0 ∷ tv.part.text) ++ others.part.text)) x.1.bytes tk.0 b3 in
    let spelt : code ++ (title ++ ((c.0.0 ∷ tv.part.text) ++ others.part.text)) ≡ ((code ++ title) ++ (value_count tv.values ∷ tv.part.text)) ++ others.part.text =
    ap (λ (i : ℕ). code ++ (title ++ ((i ∷ tv.part.text) ++ others.part.text))) (sym tv.count)
    ∙ sym (append_assoc (code ++ title) (value_count tv.values ∷ tv.part.text) others.part.text ∙ append_assoc code title ((value_count tv.values ∷ tv.part.text) ++ others.part.text)) in
    record {
      fields = field name.0.0 k.0.0 tv.values others.fields;
      made = others.made ∙ ap (λ (fs : List Field). record { what = what; fields = fs }) (append_assoc done (g ∷ []) (fields_of others.fields));
      count = ap suc others.count;
      new = (tname.free, new.0);
      depth = omega (arith, tv.depth, others.depth);
      part = record {
        text = code ++ (title ++ ((c.0.0 ∷ tv.part.text) ++ others.part.text));
        spelt = (tname.allowed, new.1, omega (arith, some, tv.count), omega (arith, tc.1, tv.count), tv.part.text, others.part.text, spelt, tv.part.spelt, others.part.spelt);
        took = b4;
      };
    }

-- ---- messages

pub message_takes : (levels : ℕ) → TakesMessages (message_at levels) levels
unfolding message_at
message_takes zero s x fits e = absurd cc
message_takes (suc levels) s x fits e =
    let nested : Bool = nat_lt 0 levels in
    let what = bind_ok (u32_at s) (λ what. byte_at what.1 >>= λ n. so_many (field_into (message_at levels) nested) n.0 (record { what = what.0; fields = [] }) n.1) x e in
    let n = bind_ok (byte_at what.0.1) (λ n. so_many (field_into (message_at levels) nested) n.0 (record { what = what.0.0; fields = [] }) n.1) x what.2 in
    let tw = u32_takes s what.0 fits what.1 in
    let tn = byte_takes what.0.1 n.0 tw.0.fits n.1 in
    let tf = fields_take (message_at levels) nested levels (message_takes levels) n.0.0 what.0.0 [] n.0.1 x tn.0.fits n.2 in
    let b1 = Takes-then what.0.1.bytes (n.0.0 ∷ []) n.0.1.bytes tf.part.text x.1.bytes tn.0 tf.part.took in
    let b2 = Takes-then s.bytes (to_le_bytes w32 what.0.0) what.0.1.bytes (n.0.0 ∷ tf.part.text) x.1.bytes tw.0 b1 in
    let made : packed x.0 ≡ message what.0.0 tf.fields = ap packed tf.made ∙ ap (message what.0.0) (fields_again tf.fields) in
    let spelt : SpellsDatum (to_le_bytes w32 what.0.0 ++ n.0.0 ∷ tf.part.text) (message what.0.0 tf.fields) =
    (tw.1, omega (arith, tf.count, tn.1), tf.part.text, ap (λ (i : ℕ). to_le_bytes w32 what.0.0 ++ i ∷ tf.part.text) (sym tf.count), tf.part.spelt) in
    let depth : datum_depth (packed x.0) ≤ suc levels = subst (λ (d : Datum). datum_depth d ≤ suc levels) (sym made) (omega (arith, tf.depth)) in
    (record { text = to_le_bytes w32 what.0.0 ++ n.0.0 ∷ tf.part.text; spelt = subst (λ (d : Datum). SpellsDatum (to_le_bytes w32 what.0.0 ++ n.0.0 ∷ tf.part.text) d) (sym made) spelt; took = b2 }, depth)

-- nothing is left
whole_is : (bytes : List ℕ) (at : ℕ) (m n : Message) → whole bytes at m ≡ Ok n → (bytes ≡ []) × (m ≡ n)
whole_is [] at m n e = (refl, ok_is m n e)
whole_is (b ∷ bytes) at m n e = absurd cc

pub is_spelt : (bytes : List ℕ) (m : Message) → IsBytes bytes → reading bytes ≡ Ok m → Spells bytes m
unfolding reading
is_spelt bytes m fits e =
    let s : Rest = record { bytes = bytes; at = 0 } in
    let x = bind_ok (message_at 16 s) (λ x. whole x.1.bytes x.1.at x.0) m e in
    let t = message_takes 16 s x.0 fits x.1 in
    let w = whole_is x.0.1.bytes x.0.1.at x.0.0 m x.2 in
    let all : t.0.text ≡ bytes = sym (append-nil t.0.text) ∙ ap (λ (q : List ℕ). t.0.text ++ q) (sym w.0) ∙ sym t.0.took.parts in
    subst (λ (q : Message). Spells bytes q) w.1 (record { depth = t.1; parts = subst (λ (q : List ℕ). SpellsDatum q (packed x.0.0)) all t.0.spelt })

pub is_found : (bytes : List ℕ) (r : Result Message FlatError) → IsBytes bytes → Gives (λ m. m) r (reading bytes) → IfOk r (λ m. Spells bytes m)
is_found bytes (Ok m) fits given = is_spelt bytes m fits given
is_found bytes (Err e) fits given = tt
