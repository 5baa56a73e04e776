-- The calls of one number in a list of calls.
use Rattle.std.proofs.Common.{◌≡◌, ◌≢◌, ◌⊎◌, ⊎_elim, inl, inr, ℕ, zero, suc, ◌+◌, ◌<◌, ◌≤◌, ◌==◌, if◌then◌else◌, true, false, Bool, List, [], ◌∷◌, ◌++◌, length, sym, refl, ap, ◌∙◌, subst, arith, eq-eqb, ne_eqb, zero-add, add-zero}
use mathlib.Core.Logic.{dite}
use mathlib.Core.Option.{some, some-injective, some-ne-none}
use native.Mathlib.Decide.{ℕ_discrete, dec_le}
use lib.ListN.{get_elem?}
use Rattle.axp_call.specs.declared.calls.Call.{Call}
use Rattle.axp_call.specs.Calls.{caller}
use Rattle.axp_ticket.specs.declared.board.Placed.{Placed}
use Rattle.axp_ticket.specs.History.{placed, calls_from, calls_of, AllBefore}
use Rattle.axp_ticket.proofs.ListPlaces.{some_at, below_length}

-- lists with an element put before them where a test says so
module _ {Item : Type 0} where
  cond_snoc : (b : Bool) (y : Item) (xs ys zs : List Item) → xs ≡ ys ++ zs
      → (if b then y ∷ xs else xs) ≡ (if b then y ∷ ys else ys) ++ zs
  cond_snoc true y xs ys zs h = ap (λ l. y ∷ l) h
  cond_snoc false y xs ys zs h = h

  cond_same : (b : Bool) (y : Item) (xs ys : List Item) → xs ≡ ys
      → (if b then y ∷ xs else xs) ≡ (if b then y ∷ ys else ys)
  cond_same true y xs ys h = ap (λ l. y ∷ l) h
  cond_same false y xs ys h = h

  cond_at : (b : Bool) (x y : Item) (later : List Item) (i : ℕ)
      → get_elem? (if b then x ∷ later else later) i ≡ some y
      → ((b ≡ true) × (i ≡ 0) × (x ≡ y)) ⊎ ((j : ℕ) × (get_elem? later j ≡ some y))
  cond_at true x y later zero e = inl (refl, refl, some-injective x y e)
  cond_at true x y later (suc i) e = inr (i, e)
  cond_at false x y later i e = inr (i, e)

  cond_later : (b : Bool) (x y : Item) (later : List Item) (i : ℕ) → get_elem? later i ≡ some y
      → (j : ℕ) × (get_elem? (if b then x ∷ later else later) j ≡ some y)
  cond_later true x y later i e = (suc i, e)
  cond_later false x y later i e = (i, e)

  cond_first : (b : Bool) (x : Item) (later : List Item) → b ≡ true
      → (j : ℕ) × (get_elem? (if b then x ∷ later else later) j ≡ some x)
  cond_first true x later e = (0, refl)
  cond_first false x later e = absurd (cc)

module _ {Ask Answer : Type 0} where
  -- the list with one call more, of this number
  pub calls_from-mine : (n p : ℕ) (xs : List (Call Ask Answer)) (c : Call Ask Answer) → caller c ≡ n
      → calls_from n p (xs ++ c ∷ []) ≡ calls_from n p xs ++ placed (p + length xs) c ∷ []
  calls_from-mine n p [] c e = rw (eq-eqb (caller c) n e, add-zero p) refl
  calls_from-mine n p (x ∷ xs) c e =
      let h : calls_from n (suc p) (xs ++ c ∷ []) ≡ calls_from n (suc p) xs ++ placed
      (p + suc (length xs)) c ∷ [] =
      calls_from-mine n (suc p) xs c e ∙ ap (λ k. calls_from n (suc p) xs ++ placed k c ∷ [])
      (omega arith) in
      cond_snoc (caller x == n) (placed p x) (calls_from n (suc p) (xs ++ c ∷ []))
      (calls_from n (suc p) xs)
      (placed (p + suc (length xs)) c ∷ []) h

  -- and of another number
  pub calls_from-other : (n p : ℕ) (xs : List (Call Ask Answer)) (c : Call Ask Answer)
      → caller c ≢ n
      → calls_from n p (xs ++ c ∷ []) ≡ calls_from n p xs
  calls_from-other n p [] c e = rw (ne_eqb (caller c) n e) refl
  calls_from-other n p (x ∷ xs) c e =
      cond_same (caller x == n) (placed p x) (calls_from n (suc p) (xs ++ c ∷ []))
      (calls_from n (suc p) xs)
      (calls_from-other n (suc p) xs c e)

  eqb_caller : (x : Call Ask Answer) (n : ℕ) → (caller x == n) ≡ true → caller x ≡ n
  eqb_caller x n e = dite (ℕ_discrete (caller x) n) (λ h. h) (λ h. let f = ne_eqb (caller x) n h in
      cc)

  -- a call of a number stands in the list at its position
  pub calls_from-told : (n p : ℕ) (xs : List (Call Ask Answer)) (i : ℕ) (m : Placed Ask Answer)
      → get_elem? (calls_from n p xs) i ≡ some m
      → (q : ℕ) × (m.position ≡ p + q) × (get_elem? xs q ≡ some m.call) × (caller m.call ≡ n)
  calls_from-told n p [] i m e = absurd (some-ne-none m (sym e))
  calls_from-told n p (x ∷ xs) i m e = ⊎_elim
      (λ (h : ((caller x == n) ≡ true) × (i ≡ 0) × (placed p x ≡ m)).
      let call_is : x ≡ m.call = ap (λ (y : Placed Ask Answer). y.call) h.2 in
      let position_is : p ≡ m.position = ap (λ (y : Placed Ask Answer). y.position) h.2 in
      (0, (omega arith), ap some call_is, ap caller (sym call_is) ∙ eqb_caller x n h.0))
      (λ (h : (j : ℕ) × (get_elem? (calls_from n (suc p) xs) j ≡ some m)).
      let t = calls_from-told n (suc p) xs h.0 m h.1 in let at = t.1 in
      (suc t.0, (omega arith), t.2, t.3))
      (cond_at (caller x == n) (placed p x) m (calls_from n (suc p) xs) i e)

  -- a call at a position of the list is among the calls of its number
  pub calls_from-whole : (n p : ℕ) (xs : List (Call Ask Answer)) (q : ℕ) (c : Call Ask Answer)
      → get_elem? xs q ≡ some c → caller c ≡ n
      → (i : ℕ) × (get_elem? (calls_from n p xs) i ≡ some (placed (p + q) c))
  calls_from-whole n p [] q c e whose = absurd (some-ne-none c (sym e))
  calls_from-whole n p (x ∷ xs) zero c e whose =
      let same : x ≡ c = some-injective x c e in
      subst (λ (m : Placed Ask Answer). (i : ℕ) × (get_elem? (calls_from n p (x ∷ xs)) i ≡ some m))
      (λ k. placed (sym (add-zero p) k) (same k))
      (cond_first (caller x == n) (placed p x) (calls_from n (suc p) xs)
      (eq-eqb (caller x) n (ap caller same ∙ whose)))
  calls_from-whole n p (x ∷ xs) (suc q) c e whose =
      let h = calls_from-whole n (suc p) xs q c e whose in
      let at : (i : ℕ) × (get_elem? (calls_from n p (x ∷ xs)) i ≡ some (placed (suc p + q) c)) =
      cond_later (caller x == n) (placed p x) (placed (suc p + q) c)
      (calls_from n (suc p) xs) h.0 h.1 in
      (at.0, at.1 ∙ ap (λ (k : ℕ). some (placed k c)) (omega arith))

  ordered : (b : Bool) (p : ℕ) (x : Call Ask Answer) (later : List (Placed Ask Answer))
      → ((i : ℕ) (m : Placed Ask Answer) → get_elem? later i ≡ some m → p < m.position)
      → ((i j : ℕ) (m m' : Placed Ask Answer) → get_elem? later i ≡ some m
      → get_elem? later j ≡ some m' → i < j → m.position < m'.position)
      → (i j : ℕ) (m m' : Placed Ask Answer)
      → get_elem? (if b then placed p x ∷ later else later) i ≡ some m
      → get_elem? (if b then placed p x ∷ later else later) j ≡ some m' → i < j
      → m.position < m'.position
  ordered false p x later above rec i j m m' e f less = rec i j m m' e f less
  ordered true p x later above rec zero zero m m' e f less = absurd (omega arith)
  ordered true p x later above rec (suc i) zero m m' e f less = absurd (omega arith)
  ordered true p x later above rec zero (suc j) m m' e f less =
      let h : p ≡ m.position = ap (λ (y : Placed Ask Answer). y.position)
      (some-injective (placed p x) m e) in
      let k = above j m' f in omega arith
  ordered true p x later above rec (suc i) (suc j) m m' e f less = rec i j m m' e f (omega arith)

  -- the calls of a number are in the order of their positions
  pub calls_from-ordered : (n p : ℕ) (xs : List (Call Ask Answer)) (i j : ℕ)
      (m m' : Placed Ask Answer)
      → get_elem? (calls_from n p xs) i ≡ some m → get_elem? (calls_from n p xs) j ≡ some m'
      → i < j → m.position < m'.position
  calls_from-ordered n p [] i j m m' e f less = absurd (some-ne-none m (sym e))
  calls_from-ordered n p (x ∷ xs) i j m m' e f less =
      ordered (caller x == n) p x (calls_from n (suc p) xs)
      (λ k l a. let t = calls_from-told n (suc p) xs k l a in let at = t.1 in omega arith)
      (λ k l a b c d h. calls_from-ordered n (suc p) xs k l a b c d h) i j m m' e f less

  -- each position is one of the list's
  pub calls_of-before : (n : ℕ) (xs : List (Call Ask Answer))
      → AllBefore (calls_of n xs) (length xs)
  calls_of-before n xs k m e =
      let t = calls_from-told n 0 xs k m e in
      let at = t.1 in let below = below_length xs t.0 m.call t.2 in omega arith

  -- each position is that of a call of a number that was handed out
  pub calls_of-whole : (given : ℕ) (xs : List (Call Ask Answer))
      → ((n : ℕ) → given ≤ n → calls_of n xs ≡ [])
      → (q : ℕ) → q < length xs
      → (c : Call Ask Answer) × (caller c < given) × (i : ℕ)
      × (get_elem? (calls_of (caller c) xs) i ≡ some (placed q c))
  calls_of-whole given xs unmade q below =
      let c : (x : Call Ask Answer) × (get_elem? xs q ≡ some x) = some_at xs q below in
      let number : ℕ = caller c.0 in
      let among : (i : ℕ) × (get_elem? (calls_of number xs) i ≡ some (placed (0 + q) c.0)) =
      calls_from-whole number 0 xs q c.0 c.1 refl in
      let handed : number < given = dite (dec_le given number)
      (λ none_made. absurd (some-ne-none (placed (0 + q) c.0)
      (sym (ap (λ (l : List (Placed Ask Answer)). get_elem? l among.0)
      (sym (unmade number none_made)) ∙ among.1))))
      (λ made. omega arith) in
      (c.0, handed, among.0, among.1 ∙ ap (λ (k : ℕ). some (placed k c.0)) (zero-add q))
