-- Which words are which command.
use Rattle.std.proofs.Common.{◌≡◌, ◌≢◌, ℕ, suc, ◌-◌, ◌/◌, ◌%◌, ◌^◌, ◌<◌, ◌≤◌, Bool, true, false, cond, eqb, List, [], ◌∷◌, length, Option, Some, None, refl, sym, ap, subst, ◌∙◌, arith}
use Rattle.std.specs.Prelude.{codes, decimal}
use Rattle.std.specs.Str.{bytes_eq}
use Rattle.std.proofs.lemmas.Bool.{eq-eqb, eqb-true, ne_eqb}
use Rattle.std.proofs.lemmas.Slice.Eq.{bytes_eq-Decides}
use Rattle.axp_base.specs.declared.processors.TheConstants.{MIN_CPUS, MAX_CPUS, MAX_BUDGET}
use Rattle.axp_image.specs.declared.limits.TheConstants.{MAX_MEMORY, PAGE_BYTES}
use Rattle.axp_words.specs.Numbers.{number_in}
use Rattle.axp_words.specs.Words.{Order, Seed, Replay, Check, Gen, Elf, Asm, Listing, ◌>>=◌, path_of, any_number, memory_in, seed_of, traced_of, gen_of, elf_of, asm_of, listing_of, order_of}
use Rattle.axp_words.proofs.NumberLemmas.{decimals}

-- the words of a command, in the subject's terms
abbrev pub Spells : List (List ℕ) → Order → Type 0
Spells words (Seed image cpus budget seed) = (words ≡ codes "seed" ∷ image ∷ decimal cpus ∷ decimal budget ∷ decimal seed ∷ [])
    × (image ≢ []) × (MIN_CPUS ≤ cpus) × (cpus ≤ MAX_CPUS) × (1 ≤ budget) × (budget ≤ MAX_BUDGET) × (seed < 2 ^ 64)
Spells words (Replay image trace) = (words ≡ codes "replay" ∷ image ∷ trace ∷ []) × (image ≢ []) × (trace ≢ [])
Spells words (Check image trace) = (words ≡ codes "check" ∷ image ∷ trace ∷ []) × (image ≢ []) × (trace ≢ [])
Spells words (Gen number) = (words ≡ codes "gen" ∷ decimal number ∷ []) × (number < 2 ^ 64)
Spells words (Elf file memory stack table) = (words ≡ codes "elf" ∷ file ∷ decimal memory ∷ decimal stack ∷ decimal table ∷ [])
    × (file ≢ []) × (memory % PAGE_BYTES ≡ 0) × (PAGE_BYTES ≤ memory) × (memory ≤ MAX_MEMORY) × (stack < 2 ^ 64) × (table < memory / PAGE_BYTES)
Spells words (Asm file) = (words ≡ codes "asm" ∷ file ∷ []) × (file ≢ [])
Spells words (Listing image) = (words ≡ codes "list" ∷ image ∷ []) × (image ≢ [])

bind_some : {A B : Type 0} (o : Option A) (f : A → Option B) (y : B) → (o >>= f) ≡ Some y → (x : A) × (o ≡ Some x) × (f x ≡ Some y)
bind_some None f y h = absurd cc
bind_some (Some x) f y h = (x, refl, h)

some_is : {A : Type 0} (x y : A) → Some x ≡ Some y → x ≡ y
some_is x y h = cc

guard_some : {A : Type 0} (b : Bool) (x : Option A) (y : A) → cond b x None ≡ Some y → (b ≡ true) × (x ≡ Some y)
guard_some true x y h = (refl, h)
guard_some false x y h = absurd cc

same_bytes : (xs ys : List ℕ) → bytes_eq xs ys ≡ true → xs ≡ ys
same_bytes xs ys = (bytes_eq-Decides xs ys).0

path_some : (c : ℕ) (cs : List ℕ) → path_of (c ∷ cs) ≡ Some (c ∷ cs)
path_some c cs = rw (ne_eqb (suc (length cs)) 0 (λ none. omega (arith, none))) refl

path_says : (word path : List ℕ) → path_of word ≡ Some path → (word ≡ path) × (word ≢ [])
path_says [] path h = absurd cc
path_says (c ∷ cs) path h = (some_is (c ∷ cs) path (sym (path_some c cs) ∙ h), λ none. absurd cc)

path_has : (path : List ℕ) → path ≢ [] → path_of path ≡ Some path
path_has [] some = absurd (some refl)
path_has (c ∷ cs) some = path_some c cs

any_says : (word : List ℕ) (n : ℕ) → any_number word ≡ Some n → (word ≡ decimal n) × (n < 2 ^ 64)
any_says word n h =
    let is = (decimals 0 (2 ^ 64 - 1) n word (omega arith)).0 h in
    (is.0, omega (arith, is.2))

any_has : (n : ℕ) → n < 2 ^ 64 → any_number (decimal n) ≡ Some n
any_has n fits = (decimals 0 (2 ^ 64 - 1) n (decimal n) (omega arith)).1 (refl, omega arith, omega arith)

-- ---- each command's words

gen_says : (number : List ℕ) (o : Order) → gen_of number ≡ Some o → Spells (codes "gen" ∷ number ∷ []) o
gen_says number o h =
    let n = bind_some (any_number number) (λ x. Some (Gen x)) o h in
    let is = any_says number n.0 n.1 in
    let shown : Spells (codes "gen" ∷ number ∷ []) (Gen n.0) = (ap (λ (w : List ℕ). codes "gen" ∷ w ∷ []) is.0, is.1) in
    subst (Spells (codes "gen" ∷ number ∷ [])) (some_is (Gen n.0) o n.2) shown

-- a command of two paths
traced_says : (verb image trace : List ℕ) (order : List ℕ → List ℕ → Order) → ((path list : List ℕ) → path ≢ [] → list ≢ [] → Spells (verb ∷ path ∷ list ∷ []) (order path list))
    → (o : Order) → traced_of order image trace ≡ Some o → Spells (verb ∷ image ∷ trace ∷ []) o
traced_says verb image trace order spelled o h =
    let i = bind_some (path_of image) (λ x. path_of trace >>= λ y. Some (order x y)) o h in
    let t = bind_some (path_of trace) (λ y. Some (order i.0 y)) o i.2 in
    let a = path_says image i.0 i.1 in
    let b = path_says trace t.0 t.1 in
    let same : order image trace ≡ order i.0 t.0 = ap (λ (x : List ℕ). order x trace) a.0 ∙ ap (order i.0) b.0 in
    subst (Spells (verb ∷ image ∷ trace ∷ [])) (same ∙ some_is (order i.0 t.0) o t.2) (spelled image trace a.1 b.1)

two_says : (verb image trace : List ℕ) (o : Order) (is_replay : Bool) → bytes_eq verb (codes "replay") ≡ is_replay
    → cond is_replay (traced_of Replay image trace) (cond (bytes_eq verb (codes "check")) (traced_of Check image trace) None) ≡ Some o → Spells (verb ∷ image ∷ trace ∷ []) o
two_says verb image trace o true is h =
    subst (λ (v : List ℕ). Spells (v ∷ image ∷ trace ∷ []) o) (sym (same_bytes verb (codes "replay") is))
    (traced_says (codes "replay") image trace Replay (λ path list some also. (refl, some, also)) o h)
two_says verb image trace o false is h =
    let read = guard_some (bytes_eq verb (codes "check")) (traced_of Check image trace) o h in
    subst (λ (v : List ℕ). Spells (v ∷ image ∷ trace ∷ []) o) (sym (same_bytes verb (codes "check") read.0))
    (traced_says (codes "check") image trace Check (λ path list some also. (refl, some, also)) o read.1)

seed_says : (image cpus budget seed : List ℕ) (o : Order) → seed_of image cpus budget seed ≡ Some o → Spells (codes "seed" ∷ image ∷ cpus ∷ budget ∷ seed ∷ []) o
seed_says image cpus budget seed o h =
    let words = codes "seed" ∷ image ∷ cpus ∷ budget ∷ seed ∷ [] in
    let i = bind_some (path_of image) (λ x. number_in MIN_CPUS MAX_CPUS cpus >>= λ c. number_in 1 MAX_BUDGET budget >>= λ b. any_number seed >>= λ s. Some (Seed x c b s)) o h in
    let c = bind_some (number_in MIN_CPUS MAX_CPUS cpus) (λ c. number_in 1 MAX_BUDGET budget >>= λ b. any_number seed >>= λ s. Some (Seed i.0 c b s)) o i.2 in
    let b = bind_some (number_in 1 MAX_BUDGET budget) (λ b. any_number seed >>= λ s. Some (Seed i.0 c.0 b s)) o c.2 in
    let s = bind_some (any_number seed) (λ s. Some (Seed i.0 c.0 b.0 s)) o b.2 in
    let path = path_says image i.0 i.1 in
    let processors = (decimals MIN_CPUS MAX_CPUS c.0 cpus (omega arith)).0 c.1 in
    let steps = (decimals 1 MAX_BUDGET b.0 budget (omega arith)).0 b.1 in
    let start = any_says seed s.0 s.1 in
    let spelled : words ≡ codes "seed" ∷ image ∷ decimal c.0 ∷ decimal b.0 ∷ decimal s.0 ∷ [] =
    ap (λ (w : List ℕ). codes "seed" ∷ image ∷ w ∷ budget ∷ seed ∷ []) processors.0
    ∙ ap (λ (w : List ℕ). codes "seed" ∷ image ∷ decimal c.0 ∷ w ∷ seed ∷ []) steps.0
    ∙ ap (λ (w : List ℕ). codes "seed" ∷ image ∷ decimal c.0 ∷ decimal b.0 ∷ w ∷ []) start.0 in
    let shown : Spells words (Seed image c.0 b.0 s.0) = (spelled, path.1, processors.1, processors.2, steps.1, steps.2, start.1) in
    let same : Seed image c.0 b.0 s.0 ≡ Seed i.0 c.0 b.0 s.0 = ap (λ (x : List ℕ). Seed x c.0 b.0 s.0) path.0 in
    subst (Spells words) (same ∙ some_is (Seed i.0 c.0 b.0 s.0) o s.2) shown

-- a size of memory in whole pages
sized_says : (size m : ℕ) → cond (eqb (size % PAGE_BYTES) 0) (Some size) None ≡ Some m → (size ≡ m) × (size % PAGE_BYTES ≡ 0)
sized_says size m h =
    let is = guard_some (eqb (size % PAGE_BYTES) 0) (Some size) m h in
    (some_is size m is.1, eqb-true (size % PAGE_BYTES) 0 is.0)

record SaysMemory (word : List ℕ) (m : ℕ) : Type 0 where
  pub spelled : word ≡ decimal m
  pub pages : m % PAGE_BYTES ≡ 0
  pub least : PAGE_BYTES ≤ m
  pub most : m ≤ MAX_MEMORY

memory_says : (word : List ℕ) (m : ℕ) → memory_in word ≡ Some m → SaysMemory word m
memory_says word m h =
    let n = bind_some (number_in PAGE_BYTES MAX_MEMORY word) (λ size. cond (eqb (size % PAGE_BYTES) 0) (Some size) None) m h in
    let is = (decimals PAGE_BYTES MAX_MEMORY n.0 word (omega arith)).0 n.1 in
    let sized = sized_says n.0 m n.2 in
    subst (SaysMemory word) sized.0 (record { spelled = is.0; pages = sized.1; least = is.1; most = is.2 })

memory_has : (m : ℕ) → m % PAGE_BYTES ≡ 0 → PAGE_BYTES ≤ m → m ≤ MAX_MEMORY → memory_in (decimal m) ≡ Some m
memory_has m pages least most = rw ((decimals PAGE_BYTES MAX_MEMORY m (decimal m) (omega arith)).1 (refl, least, most), eq-eqb (m % PAGE_BYTES) 0 pages) refl

pages_some : (m : ℕ) → PAGE_BYTES ≤ m → 1 ≤ m / PAGE_BYTES
pages_some m least = omega (arith, least)

below : (table pages : ℕ) → 1 ≤ pages → table ≤ pages - 1 → table < pages
below table pages some most = omega (arith, some, most)

at_most : (table pages : ℕ) → table < pages → table ≤ pages - 1
at_most table pages below = omega (arith, below)

few_pages : (m : ℕ) → m ≤ MAX_MEMORY → m / PAGE_BYTES - 1 < 2 ^ 64
few_pages m most = omega (arith, most)

elf_says : (file memory stack table : List ℕ) (o : Order) → elf_of file memory stack table ≡ Some o → Spells (codes "elf" ∷ file ∷ memory ∷ stack ∷ table ∷ []) o
elf_says file memory stack table o h =
    let words = codes "elf" ∷ file ∷ memory ∷ stack ∷ table ∷ [] in
    let f = bind_some (path_of file) (λ x. memory_in memory >>= λ m. any_number stack >>= λ s. number_in 0 (m / PAGE_BYTES - 1) table >>= λ t. Some (Elf x m s t)) o h in
    let m = bind_some (memory_in memory) (λ m. any_number stack >>= λ s. number_in 0 (m / PAGE_BYTES - 1) table >>= λ t. Some (Elf f.0 m s t)) o f.2 in
    let s = bind_some (any_number stack) (λ s. number_in 0 (m.0 / PAGE_BYTES - 1) table >>= λ t. Some (Elf f.0 m.0 s t)) o m.2 in
    let t = bind_some (number_in 0 (m.0 / PAGE_BYTES - 1) table) (λ t. Some (Elf f.0 m.0 s.0 t)) o s.2 in
    let path = path_says file f.0 f.1 in
    let size = memory_says memory m.0 m.1 in
    let start = any_says stack s.0 s.1 in
    let page = (decimals 0 (m.0 / PAGE_BYTES - 1) t.0 table (few_pages m.0 size.most)).0 t.1 in
    let spelled : words ≡ codes "elf" ∷ file ∷ decimal m.0 ∷ decimal s.0 ∷ decimal t.0 ∷ [] =
    ap (λ (w : List ℕ). codes "elf" ∷ file ∷ w ∷ stack ∷ table ∷ []) size.spelled
    ∙ ap (λ (w : List ℕ). codes "elf" ∷ file ∷ decimal m.0 ∷ w ∷ table ∷ []) start.0
    ∙ ap (λ (w : List ℕ). codes "elf" ∷ file ∷ decimal m.0 ∷ decimal s.0 ∷ w ∷ []) page.0 in
    let shown : Spells words (Elf file m.0 s.0 t.0) = (spelled, path.1, size.pages, size.least, size.most, start.1, below t.0 (m.0 / PAGE_BYTES) (pages_some m.0 size.least) page.2) in
    let same : Elf file m.0 s.0 t.0 ≡ Elf f.0 m.0 s.0 t.0 = ap (λ (x : List ℕ). Elf x m.0 s.0 t.0) path.0 in
    subst (Spells words) (same ∙ some_is (Elf f.0 m.0 s.0 t.0) o t.2) shown

four_says : (verb first second third fourth : List ℕ) (o : Order) (is_seed : Bool) → bytes_eq verb (codes "seed") ≡ is_seed
    → cond is_seed (seed_of first second third fourth) (cond (bytes_eq verb (codes "elf")) (elf_of first second third fourth) None) ≡ Some o → Spells (verb ∷ first ∷ second ∷ third ∷ fourth ∷ []) o
four_says verb first second third fourth o true is h =
    subst (λ (v : List ℕ). Spells (v ∷ first ∷ second ∷ third ∷ fourth ∷ []) o) (sym (same_bytes verb (codes "seed") is)) (seed_says first second third fourth o h)
four_says verb first second third fourth o false is h =
    let read = guard_some (bytes_eq verb (codes "elf")) (elf_of first second third fourth) o h in
    subst (λ (v : List ℕ). Spells (v ∷ first ∷ second ∷ third ∷ fourth ∷ []) o) (sym (same_bytes verb (codes "elf") read.0)) (elf_says first second third fourth o read.1)

-- a command of a path alone
path_order_says : (verb word : List ℕ) (order : List ℕ → Order) → ((path : List ℕ) → path ≢ [] → Spells (verb ∷ path ∷ []) (order path))
    → (o : Order) → (path_of word >>= λ path. Some (order path)) ≡ Some o → Spells (verb ∷ word ∷ []) o
path_order_says verb word order spelled o h =
    let p = bind_some (path_of word) (λ path. Some (order path)) o h in
    let is = path_says word p.0 p.1 in
    subst (Spells (verb ∷ word ∷ [])) (ap order is.0 ∙ some_is (order p.0) o p.2) (spelled word is.1)

one_says : (verb word : List ℕ) (o : Order) (is_gen is_asm : Bool) → bytes_eq verb (codes "gen") ≡ is_gen → bytes_eq verb (codes "asm") ≡ is_asm
    → cond is_gen (gen_of word) (cond is_asm (asm_of word) (cond (bytes_eq verb (codes "list")) (listing_of word) None)) ≡ Some o → Spells (verb ∷ word ∷ []) o
one_says verb word o true is_asm gen asm h =
    subst (λ (v : List ℕ). Spells (v ∷ word ∷ []) o) (sym (same_bytes verb (codes "gen") gen)) (gen_says word o h)
one_says verb word o false true gen asm h =
    subst (λ (v : List ℕ). Spells (v ∷ word ∷ []) o) (sym (same_bytes verb (codes "asm") asm))
    (path_order_says (codes "asm") word Asm (λ path some. (refl, some)) o h)
one_says verb word o false false gen asm h =
    let read = guard_some (bytes_eq verb (codes "list")) (listing_of word) o h in
    subst (λ (v : List ℕ). Spells (v ∷ word ∷ []) o) (sym (same_bytes verb (codes "list") read.0))
    (path_order_says (codes "list") word Listing (λ path some. (refl, some)) o read.1)

-- ---- both ways

pub order_says : (words : List (List ℕ)) (o : Order) → order_of words ≡ Some o → Spells words o
unfolding order_of
order_says [] o h = absurd cc
order_says (a ∷ []) o h = absurd cc
order_says (verb ∷ word ∷ []) o h = one_says verb word o (bytes_eq verb (codes "gen")) (bytes_eq verb (codes "asm")) refl refl h
order_says (verb ∷ image ∷ trace ∷ []) o h = two_says verb image trace o (bytes_eq verb (codes "replay")) refl h
order_says (a ∷ b ∷ c ∷ d ∷ []) o h = absurd cc
order_says (verb ∷ first ∷ second ∷ third ∷ fourth ∷ []) o h = four_says verb first second third fourth o (bytes_eq verb (codes "seed")) refl h
order_says (a ∷ b ∷ c ∷ d ∷ e ∷ f ∷ more) o h = absurd cc

pub order_has : (words : List (List ℕ)) (o : Order) → Spells words o → order_of words ≡ Some o
unfolding order_of
order_has words (Seed image cpus budget seed) is =
    let read : seed_of image (decimal cpus) (decimal budget) (decimal seed) ≡ Some (Seed image cpus budget seed) = rw (
      path_has image is.1,
      (decimals MIN_CPUS MAX_CPUS cpus (decimal cpus) (omega arith)).1 (refl, is.2, is.3),
      (decimals 1 MAX_BUDGET budget (decimal budget) (omega arith)).1 (refl, is.4, is.5),
      any_has seed is.6,
    ) refl in
    ap order_of is.0 ∙ read
order_has words (Elf file memory stack table) is =
    let read : elf_of file (decimal memory) (decimal stack) (decimal table) ≡ Some (Elf file memory stack table) = rw (
      path_has file is.1,
      memory_has memory is.2 is.3 is.4,
      any_has stack is.5,
      (decimals 0 (memory / PAGE_BYTES - 1) table (decimal table) (few_pages memory is.4)).1 (refl, omega arith, at_most table (memory / PAGE_BYTES) is.6),
    ) refl in
    ap order_of is.0 ∙ read
order_has words (Replay image trace) is =
    ap order_of is.0 ∙ rw (path_has image is.1, path_has trace is.2) refl
order_has words (Check image trace) is =
    ap order_of is.0 ∙ rw (path_has image is.1, path_has trace is.2) refl
order_has words (Gen number) is =
    ap order_of is.0 ∙ rw (any_has number is.1) refl
order_has words (Asm file) is =
    ap order_of is.0 ∙ rw (path_has file is.1) refl
order_has words (Listing image) is =
    ap order_of is.0 ∙ rw (path_has image is.1) refl
