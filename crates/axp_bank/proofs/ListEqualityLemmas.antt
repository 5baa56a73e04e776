-- Ascending copies that show the same at each line are the same list.
use Rattle.std.proofs.Common.{◌≡◌, ◌≢◌, ℕ, ◌*◌, ◌^◌, ◌<◌, ◌≤◌, true, nat_lt, List, [], ◌∷◌, Some, None, refl, sym, ap, subst, ◌∙◌, arith, ⊎_elim}
use Rattle.std.specs.Option.{option_map, unwrap_or}
use Rattle.std.specs.declared.option.Option.{Option}
use Rattle.std.proofs.lemmas.Bool.{or_from, cases_lt, cases_eq}
use mathlib.Core.Bool.{Bool-set}
use Rattle.axp_base.specs.declared.lines.Line.{Line}
use Rattle.axp_base.specs.declared.lines.TheConstants.{LINE_BYTES}
use Rattle.axp_line.specs.declared.contents.LineData.{LineData}
use Rattle.axp_bank.specs.declared.copies.LineCopy.{LineCopy}
use Rattle.axp_bank.specs.Copies.{line_of, Ascending, Whole, is_held, shown, get_of}
use Rattle.axp_bank.proofs.BankLemmas.{apart, above_none, get_none}
use Rattle.axp_bank.proofs.HeldCopyLemmas.{own, comes, goes}

-- a line is known by its number
abbrev line_made : (n : ℕ) → nat_lt (n * LINE_BYTES) (2 ^ 64) ≡ true → Line
line_made n h = record { number = n; addressed = h }

same_line_by : (n m : ℕ) (h : nat_lt (n * LINE_BYTES) (2 ^ 64) ≡ true) → n ≡ m → (k : nat_lt (m * LINE_BYTES) (2 ^ 64) ≡ true) → line_made n h ≡ line_made m k
same_line_by n m h e =
    subst (λ x. (k : nat_lt (x * LINE_BYTES) (2 ^ 64) ≡ true) → line_made n h ≡ line_made x k) e
    (λ k. ap (λ (p : nat_lt (n * LINE_BYTES) (2 ^ 64) ≡ true). line_made n p) (Bool-set (nat_lt (n * LINE_BYTES) (2 ^ 64)) true h k))

same_copy : (c d : LineCopy) → line_of c ≡ line_of d → Some (shown c) ≡ Some (shown d) → c ≡ d
same_copy c d line seen =
    let lines : c.line ≡ d.line = same_line_by c.line.number d.line.number c.line.addressed line d.line.addressed in
    let both : shown c ≡ shown d = ap (λ (o : Option (ℕ × LineData)). unwrap_or o (shown c)) seen in
    let stamps : c.stamp ≡ d.stamp = ap (λ (s : ℕ × LineData). s.0) both in
    let bytes : c.bytes ≡ d.bytes = ap (λ (s : ℕ × LineData). s.1) both in
    λ i. record { line = lines i; stamp = stamps i; bytes = bytes i }

get_head : (c : LineCopy) (cs : List LineCopy) → get_of (line_of c) (c ∷ cs) ≡ Some (shown c)
unfolding get_of
get_head c cs = ap (option_map shown) (comes (line_of c) c cs (own c))

get_tail : (n : ℕ) (c : LineCopy) (cs : List LineCopy) → n ≢ line_of c → get_of n (c ∷ cs) ≡ get_of n cs
unfolding get_of
get_tail n c cs ne = ap (option_map shown) (goes n c cs (apart (line_of c) n (λ e. ne (sym e))))

get_below : (n : ℕ) (c : LineCopy) (cs : List LineCopy) → Ascending (c ∷ cs) → n < line_of c → get_of n (c ∷ cs) ≡ None
unfolding Ascending is_held
get_below n c cs up below =
    get_none n (c ∷ cs) (or_from _ _ (apart (line_of c) n (λ e. absurd (omega (arith, e, below)))) (above_none n (line_of c) cs (omega arith) up.0))

get_after : (n : ℕ) (c : LineCopy) (cs : List LineCopy) → Ascending (c ∷ cs) → n ≡ line_of c → get_of n cs ≡ None
unfolding Ascending is_held
get_after n c cs up same = get_none n cs (above_none n (line_of c) cs (omega (arith, same)) up.0)

same_heads : (c d : LineCopy) (cs ds : List LineCopy) → Ascending (c ∷ cs) → Ascending (d ∷ ds) → ((n : ℕ) → get_of n (c ∷ cs) ≡ get_of n (d ∷ ds)) → line_of c ≡ line_of d
same_heads c d cs ds up over same =
    ⊎_elim
    (λ (below : line_of c < line_of d). let no : Some (shown c) ≡ None = sym (get_head c cs) ∙ same (line_of c) ∙ get_below (line_of c) d ds over below in cc)
    (λ (rest : line_of d ≤ line_of c).
    ⊎_elim
    (λ (below : line_of d < line_of c). let no : Some (shown d) ≡ None = sym (get_head d ds) ∙ sym (same (line_of d)) ∙ get_below (line_of d) c cs up below in cc)
    (λ (more : line_of c ≤ line_of d). omega arith)
    (cases_lt (line_of d) (line_of c)))
    (cases_lt (line_of c) (line_of d))

same_tails : (c d : LineCopy) (cs ds : List LineCopy) → Ascending (c ∷ cs) → Ascending (d ∷ ds) → ((n : ℕ) → get_of n (c ∷ cs) ≡ get_of n (d ∷ ds)) → line_of c ≡ line_of d → (n : ℕ) → get_of n cs ≡ get_of n ds
same_tails c d cs ds up over same heads n =
    ⊎_elim
    (λ (e : n ≡ line_of c). get_after n c cs up e ∙ sym (get_after n d ds over (e ∙ heads)))
    (λ (ne : n ≢ line_of c). sym (get_tail n c cs ne) ∙ same n ∙ get_tail n d ds (λ e. ne (e ∙ sym heads)))
    (cases_eq n (line_of c))

up_after : (c : LineCopy) (cs : List LineCopy) → Ascending (c ∷ cs) → Ascending cs
unfolding Ascending
up_after c cs up = up.1

got_nothing : (n : ℕ) → get_of n [] ≡ None
unfolding get_of
got_nothing n = refl

same_lists_by : (cs ds : List LineCopy) → Ascending cs → Ascending ds → ((n : ℕ) → get_of n cs ≡ get_of n ds) → cs ≡ ds
same_lists_by [] [] up over same = refl
same_lists_by [] (d ∷ ds) up over same = let no : None ≡ Some (shown d) = sym (got_nothing (line_of d)) ∙ same (line_of d) ∙ get_head d ds in cc
same_lists_by (c ∷ cs) [] up over same = let no : None ≡ Some (shown c) = sym (got_nothing (line_of c)) ∙ sym (same (line_of c)) ∙ get_head c cs in cc
same_lists_by (c ∷ cs) (d ∷ ds) up over same =
    let heads = same_heads c d cs ds up over same in
    let seen : Some (shown c) ≡ Some (shown d) = sym (get_head c cs) ∙ same (line_of c) ∙ ap (λ n. get_of n (d ∷ ds)) heads ∙ get_head d ds in
    let head = same_copy c d heads seen in
    let tail = same_lists_by cs ds (up_after c cs up) (up_after d ds over) (same_tails c d cs ds up over same heads) in
    λ i. head i ∷ tail i

pub same_copies : (cs ds : List LineCopy) → Whole cs → Whole ds → ((n : ℕ) → get_of n cs ≡ get_of n ds) → cs ≡ ds
same_copies cs ds w v same = same_lists_by cs ds w.up v.up same
