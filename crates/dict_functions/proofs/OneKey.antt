-- A line writes one key, and a key finds one row.
use Rattle.std.proofs.Common.{◌≡◌, ◌<◌, ◌≤◌, ◌⊎◌, ◌+◌, ◌∷◌, ◌++◌, ◌∙◌, [], ℕ, ℤ, pos, negsuc, List, Option, Some, None, Ok, refl, sym, ap, subst, inl, inr, arith, slice_get}
use Rattle.std.specs.Prelude.{◌<ℤ◌}
use Rattle.std.proofs.lemmas.Bool.{cases_lt, cases_order}
use Rattle.std.proofs.lemmas.Int.{ints}
use Rattle.std.proofs.lemmas.Option.{same_Some}
use Rattle.cache_layout.specs.Fetching.{key_types}
use Rattle.dict_schema.specs.declared.definition.Definition.{Definition}
use Rattle.dict_schema.specs.declared.definition.Strategy.{Strategy}
use Rattle.dict_schema.specs.declared.definition.Strategy.TheVariants.{Min, Max}
use Rattle.dict_value.proofs.FirstPlaces.{one-found}
use Rattle.dict_value.specs.Addresses.{address_in}
use Rattle.dict_value.specs.Values.{reading, text_reading}
use Rattle.dict_value.specs.declared.value.Address.{Address}
use Rattle.dict_value.specs.declared.value.Address.TheVariants as address
use Rattle.dict_value.specs.declared.value.AttrType.{AttrType}
use Rattle.dict_value.specs.declared.value.ColType.{ColType}
use Rattle.dict_value.specs.declared.value.ColType.TheVariants.{UInt64}
use Rattle.dict_value.specs.declared.value.Field.{Field}
use Rattle.dict_value.specs.declared.value.Field.TheVariants as field
use Rattle.dict_value.specs.declared.value.Value.{Value}
use Rattle.dict_value.specs.declared.value.Value.TheVariants.{U}
use Rattle.dict_version.specs.Keys.{range_end, key_lists_of, numbers_of, ranges_of, key_texts}
use Rattle.dict_version.specs.Lookups.{FindsBy}
use Rattle.dict_version.specs.declared.key.Key.{Key}
use Rattle.dict_version.specs.declared.key.Key.TheVariants as key
use Rattle.dict_version.specs.declared.lookup.LookupBy.{LookupBy}
use Rattle.dict_version.specs.declared.lookup.LookupBy.TheVariants as by
use Rattle.ip_trie.specs.FindByAddress.{FindsByAddress, IsLongest}
use Rattle.range_layout.specs.FindByRange.{FindsByRange, IsLowerEnd, IsLowerStart, IsFirstHolding, Precedes}
use Rattle.range_layout.specs.declared.ends.End.{End}
use Rattle.range_layout.specs.declared.ends.End.TheVariants.{Free, At}
use Rattle.range_layout.specs.declared.ends.Ends.{Ends}
use Rattle.dict_functions.specs.Keys.{ReadsAddress, ReadsAs, ReadsKeyBy, ReadsNumber, ReadsNumbers, ReadsPoint, ReadsRanged}
use Rattle.dict_functions.proofs.KeysRead.{front-values}

-- ---- the key of a line

same-text : (a b : List ℕ) (f : Field) → f ≡ field.Text a → f ≡ field.Text b → a ≡ b
same-text a b f p q = let e : field.Text a ≡ field.Text b = sym p ∙ q in cc

number-once : (f : Field) (n m : ℕ) → ReadsNumber f n → ReadsNumber f m → n ≡ m
number-once f n m (text, is, reads) (other, was, read) =
    let same : text ≡ other = same-text text other f is was in
    let e : Ok (U n) ≡ Ok (U m) = sym reads ∙ ap (text_reading UInt64) same ∙ read in cc

pub numbers-once : (fields : List Field) (ns ms : List ℕ) → ReadsNumbers fields ns → ReadsNumbers fields ms → ns ≡ ms
numbers-once [] [] [] p q = refl
numbers-once [] [] (m ∷ ms) p q = absurd q
numbers-once [] (n ∷ ns) ms p q = absurd p
numbers-once (f ∷ fields) [] ms p q = absurd p
numbers-once (f ∷ fields) (n ∷ ns) [] p q = absurd q
numbers-once (f ∷ fields) (n ∷ ns) (m ∷ ms) p q = rw (number-once f n m p.0 q.0, numbers-once fields ns ms p.1 q.1) refl

values-once : (types : List AttrType) (fields : List Field) (vs ws : List Value) → ReadsAs types fields vs → ReadsAs types fields ws → vs ≡ ws
values-once [] [] [] [] p q = refl
values-once [] [] [] (w ∷ ws) p q = absurd q
values-once [] [] (v ∷ vs) ws p q = absurd p
values-once [] (f ∷ fields) vs ws p q = absurd p
values-once (t ∷ types) [] vs ws p q = absurd p
values-once (t ∷ types) (f ∷ fields) [] ws p q = absurd p
values-once (t ∷ types) (f ∷ fields) (v ∷ vs) [] p q = absurd q
values-once (t ∷ types) (f ∷ fields) (v ∷ vs) (w ∷ ws) p q =
    let e : Ok v ≡ Ok w = sym p.0 ∙ q.0 in
    let head : v ≡ w = cc in
    rw (head, values-once types fields vs ws p.1 q.1) refl

point-once : (d : Definition) (f : Field) (a b : ℤ) → ReadsPoint d f a → ReadsPoint d f b → a ≡ b
point-once d f a b p q =
    let text : p.text ≡ q.text = same-text p.text q.text f p.is_text q.is_text in
    let base : p.base ≡ q.base = same_Some p.base q.base (sym p.typed ∙ q.typed) in
    let read : Ok p.value ≡ Ok q.value = sym p.read ∙ ap (λ (t : ColType). text_reading t p.text) base ∙ ap (text_reading q.base) text ∙ q.read in
    let value : p.value ≡ q.value = cc in
    let number : At a ≡ At b = sym p.number ∙ ap (λ v. range_end (Some v)) value ∙ q.number in cc

no-push : {X : Type 0} (xs : List X) (x : X) → [] ≡ xs ++ x ∷ [] → ⊥
no-push [] x e = cc
no-push (y ∷ xs) x e = cc

last-once : {X : Type 0} (xs ys : List X) (x y : X) → xs ++ x ∷ [] ≡ ys ++ y ∷ [] → x ≡ y
last-once [] [] x y e = cc
last-once {X} [] (z ∷ ys) x y e = let tail : [] ≡ ys ++ y ∷ [] = cc in absurd (no-push ys y tail)
last-once {X} (z ∷ xs) [] x y e = let tail : [] ≡ xs ++ x ∷ [] = cc in absurd (no-push xs x tail)
last-once (z ∷ xs) (w ∷ ys) x y e = let tail : xs ++ x ∷ [] ≡ ys ++ y ∷ [] = cc in last-once xs ys x y tail

ranged-values : (d : Definition) (fields : List Field) (vs ws : List Value) (a b : ℤ) → ReadsRanged d fields vs a → ReadsRanged d fields ws b → vs ≡ ws
ranged-values d fields vs ws a b p q =
    values-once (key_types d) _ vs ws (front-values d fields vs a p) (front-values d fields ws b q)

ranged-point : (d : Definition) (fields : List Field) (vs ws : List Value) (a b : ℤ) → ReadsRanged d fields vs a → ReadsRanged d fields ws b → a ≡ b
ranged-point d fields vs ws a b p q =
    let last : p.last ≡ q.last = last-once p.front q.front p.last q.last (sym p.parts ∙ q.parts) in
    point-once d q.last a b (subst (λ f. ReadsPoint d f a) last p.ends) q.ends

address-once : (fields : List Field) (k l : Key) → ReadsAddress fields k → ReadsAddress fields l → k ≡ l
address-once [] k l p q = absurd p
address-once (field.Null ∷ fields) k l p q = absurd p
address-once (field.Text text ∷ f ∷ fields) k l p q = absurd p
address-once (field.Text text ∷ []) (key.V4 a) (key.V4 b) p q = let e : Some (address.V4 a) ≡ Some (address.V4 b) = sym p ∙ q in cc
address-once (field.Text text ∷ []) (key.V4 a) (key.V6 b) p q = let e : Some (address.V4 a) ≡ Some (address.V6 b) = sym p ∙ q in absurd (cc e)
address-once (field.Text text ∷ []) (key.V6 a) (key.V4 b) p q = let e : Some (address.V6 a) ≡ Some (address.V4 b) = sym p ∙ q in absurd (cc e)
address-once (field.Text text ∷ []) (key.V6 a) (key.V6 b) p q = let e : Some (address.V6 a) ≡ Some (address.V6 b) = sym p ∙ q in cc
address-once (field.Text text ∷ []) (key.V4 a) l p q = absurd q
address-once (field.Text text ∷ []) (key.V6 a) l p q = absurd q
address-once (field.Text text ∷ []) k l p q = absurd p

pub key-once : (looked : LookupBy) (d : Definition) (fields : List Field) (k l : Key) → ReadsKeyBy looked d fields k → ReadsKeyBy looked d fields l → k ≡ l
key-once (by.SmallNumber most) d fields (key.Simple n) (key.Simple m) p q =
    let e : n ∷ [] ≡ m ∷ [] = numbers-once fields (n ∷ []) (m ∷ []) p q in cc
key-once by.Number d fields (key.Simple n) (key.Simple m) p q =
    let e : n ∷ [] ≡ m ∷ [] = numbers-once fields (n ∷ []) (m ∷ []) p q in cc
key-once by.KeyList d fields (key.List vs) (key.List ws) p q = ap key.List (values-once (key_types d) fields vs ws p q)
key-once (by.Range strategy) d fields (key.Ranged vs a) (key.Ranged ws b) p q =
    rw (ranged-values d fields vs ws a b p q, ranged-point d fields vs ws a b p q) refl
key-once by.Address d fields k l p q = address-once fields k l p q
key-once (by.SmallNumber most) d fields (key.Simple n) l p q = absurd q
key-once by.Number d fields (key.Simple n) l p q = absurd q
key-once by.KeyList d fields (key.List vs) l p q = absurd q
key-once (by.Range strategy) d fields (key.Ranged vs a) l p q = absurd q
key-once looked d fields k l p q = absurd p

-- ---- the row of a key

int-by : (m n : ℕ) → (m ≡ n) ⊎ ((m < n) ⊎ (n < m)) → (pos m ≡ pos n) ⊎ ((pos m <ℤ pos n) ⊎ (pos n <ℤ pos m))
int-by m n (inl e) = inl (ap pos e)
int-by m n (inr (inl l)) = inr (inl (omega (arith, ints, l)))
int-by m n (inr (inr l)) = inr (inr (omega (arith, ints, l)))

below-by : (m n : ℕ) → (m ≡ n) ⊎ ((m < n) ⊎ (n < m)) → (negsuc m ≡ negsuc n) ⊎ ((negsuc m <ℤ negsuc n) ⊎ (negsuc n <ℤ negsuc m))
below-by m n (inl e) = inl (ap negsuc e)
below-by m n (inr (inl l)) = inr (inr (omega (arith, ints, l)))
below-by m n (inr (inr l)) = inr (inl (omega (arith, ints, l)))

int-order : (a b : ℤ) → (a ≡ b) ⊎ ((a <ℤ b) ⊎ (b <ℤ a))
int-order (pos m) (pos n) = int-by m n (cases_order m n)
int-order (pos m) (negsuc n) = inr (inr (omega (arith, ints)))
int-order (negsuc m) (pos n) = inr (inl (omega (arith, ints)))
int-order (negsuc m) (negsuc n) = below-by m n (cases_order m n)

start-by : (a b : ℤ) → (a ≡ b) ⊎ ((a <ℤ b) ⊎ (b <ℤ a)) → (At a ≡ At b) ⊎ (IsLowerStart (At a) (At b) ⊎ IsLowerStart (At b) (At a))
start-by a b (inl e) = inl (ap At e)
start-by a b (inr l) = inr l

start-order : (a b : End) → (a ≡ b) ⊎ (IsLowerStart a b ⊎ IsLowerStart b a)
start-order Free Free = inl refl
start-order Free (At b) = inr (inl tt)
start-order (At a) Free = inr (inr tt)
start-order (At a) (At b) = start-by a b (int-order a b)

end-by : (a b : ℤ) → (a ≡ b) ⊎ ((a <ℤ b) ⊎ (b <ℤ a)) → (At a ≡ At b) ⊎ (IsLowerEnd (At a) (At b) ⊎ IsLowerEnd (At b) (At a))
end-by a b (inl e) = inl (ap At e)
end-by a b (inr l) = inr l

end-order : (a b : End) → (a ≡ b) ⊎ (IsLowerEnd a b ⊎ IsLowerEnd b a)
end-order Free Free = inl refl
end-order Free (At b) = inr (inr tt)
end-order (At a) Free = inr (inl tt)
end-order (At a) (At b) = end-by a b (int-order a b)

-- of two places one row precedes the other, unless they are one
module _ (a b : Ends) (i j : ℕ) where
  first-by : (s : Strategy) → (a.low ≡ b.low) ⊎ (IsLowerStart a.low b.low ⊎ IsLowerStart b.low a.low)
      → (a.high ≡ b.high) ⊎ (IsLowerEnd a.high b.high ⊎ IsLowerEnd b.high a.high) → (i ≡ j) ⊎ ((i < j) ⊎ (j < i))
      → (i ≡ j) ⊎ (Precedes s a i b j ⊎ Precedes s b j a i)
  first-by Min (inl low) (inl high) (inl same) = inl same
  first-by Min (inl low) (inl high) (inr (inl less)) = inr (inl (inr (low, inr (high, less))))
  first-by Min (inl low) (inl high) (inr (inr more)) = inr (inr (inr (sym low, inr (sym high, more))))
  first-by Min (inl low) (inr (inl less)) places = inr (inl (inr (low, inl less)))
  first-by Min (inl low) (inr (inr more)) places = inr (inr (inr (sym low, inl more)))
  first-by Min (inr (inl less)) highs places = inr (inl (inl less))
  first-by Min (inr (inr more)) highs places = inr (inr (inl more))
  first-by Max (inl low) (inl high) (inl same) = inl same
  first-by Max (inl low) (inl high) (inr (inl less)) = inr (inl (inr (low, inr (high, less))))
  first-by Max (inl low) (inl high) (inr (inr more)) = inr (inr (inr (sym low, inr (sym high, more))))
  first-by Max (inl low) (inr (inl less)) places = inr (inr (inr (sym low, inl less)))
  first-by Max (inl low) (inr (inr more)) places = inr (inl (inr (low, inl more)))
  first-by Max (inr (inl less)) highs places = inr (inr (inl less))
  first-by Max (inr (inr more)) highs places = inr (inl (inl more))

taken-by : (s : Strategy) (a b : Ends) (i j : ℕ) → (i ≡ j) ⊎ (Precedes s a i b j ⊎ Precedes s b j a i) → (Precedes s a i b j → ⊥) → (Precedes s b j a i → ⊥) → i ≡ j
taken-by s a b i j (inl same) x y = same
taken-by s a b i j (inr (inl p)) x y = absurd (x p)
taken-by s a b i j (inr (inr p)) x y = absurd (y p)

ranged-once : (keys : List (List Value)) (ends : List Ends) (s : Strategy) (k : List Value) (point : ℤ) (a b : Option ℕ) → FindsByRange keys ends s k point a → FindsByRange keys ends s k point b → a ≡ b
ranged-once keys ends s k point None None p q = refl
ranged-once keys ends s k point None (Some j) p q = absurd (p j q.range q.here q.holds)
ranged-once keys ends s k point (Some i) None p q = absurd (q i p.range p.here p.holds)
ranged-once keys ends s k point (Some i) (Some j) p q =
    ap Some (taken-by s p.range q.range i j
    (first-by p.range q.range i j s (start-order p.range.low q.range.low) (end-order p.range.high q.range.high) (cases_order i j))
    (q.first i p.range p.here p.holds) (p.first j q.range q.here q.holds))

longest-by : (n m i j : ℕ) → (n < m) ⊎ ((n ≡ m) × (j ≤ i)) → (m < n) ⊎ ((m ≡ n) × (i ≤ j)) → i ≡ j
longest-by n m i j (inl l) (inl k) = absurd (omega (arith, l, k))
longest-by n m i j (inl l) (inr k) = absurd (let e = k.0 in omega (arith, l, e))
longest-by n m i j (inr l) (inl k) = absurd (let e = l.0 in omega (arith, e, k))
longest-by n m i j (inr l) (inr k) = let low = l.1 in let high = k.1 in omega (arith, low, high)

addressed-once : (texts : List (List ℕ)) (at : Address) (a b : Option ℕ) → FindsByAddress texts at a → FindsByAddress texts at b → a ≡ b
addressed-once texts at None None p q = refl
addressed-once texts at None (Some j) p q = absurd (p j q.prefix q.here q.holds)
addressed-once texts at (Some i) None p q = absurd (q i p.prefix p.here p.holds)
addressed-once texts at (Some i) (Some j) p q =
    ap Some (longest-by p.prefix.len q.prefix.len i j (q.longest i p.prefix p.here p.holds) (p.longest j q.prefix q.here q.holds))

pub finds-once : (looked : LookupBy) (d : Definition) (rows : List (List Value)) (k : Key) (a b : Option ℕ) → FindsBy looked d rows k a → FindsBy looked d rows k b → a ≡ b
finds-once (by.SmallNumber most) d rows (key.Simple n) a b p q = one-found (numbers_of rows) n a b p q
finds-once by.Number d rows (key.Simple n) a b p q = one-found (numbers_of rows) n a b p q
finds-once by.KeyList d rows (key.List values) a b p q = one-found (key_lists_of d rows) values a b p q
finds-once (by.Range strategy) d rows (key.Ranged values point) a b p q = ranged-once (key_lists_of d rows) (ranges_of d rows) strategy values point a b p q
finds-once by.Address d rows (key.V4 bits) a b p q = addressed-once (key_texts rows) (address.V4 bits) a b p q
finds-once by.Address d rows (key.V6 bits) a b p q = addressed-once (key_texts rows) (address.V6 bits) a b p q
finds-once looked d rows k a b p q = p ∙ sym q
