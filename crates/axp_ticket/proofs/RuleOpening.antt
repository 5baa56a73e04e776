-- The rule of the table at the opening.
use Rattle.std.proofs.Common.{◌≡◌, inl, inr, ℕ, zero, suc, ◌-◌, ◌*◌, ◌≤◌, [], ◌∷◌, sym, refl, ap, subst, arith, Some}
use mathlib.Core.Option.{some, some-injective, some-ne-none}
use lib.ListN.{get_elem?}
use Rattle.atomic_table.specs.Table.{opening}
use Rattle.axp_ticket.specs.declared.board.View.{View}
use Rattle.axp_ticket.specs.Queue.{IsOpened, IsSound, Progress, Knows, Queued, gathering, Terms, Homes}

module _ {Value Ask Answer : Type 0} where
  -- no step was made
  abbrev no_steps : Value → Progress Value Ask Answer
  no_steps opened = record {
    log = [];
    value = opened;
    next = 0;
    given = 0;
    gatherer = 0;
    owner = λ n. 0;
    holder = λ n. 0;
  }

  -- what holds of the one view holds of all
  only_view : (K : ℕ → View Value Ask Answer → Type 0) (v : View Value Ask Answer) → K 0 v
      → (j : ℕ) (d : View Value Ask Answer) → get_elem? (v ∷ []) j ≡ some d → K j d
  only_view K v first zero d a = subst (K 0) (some-injective v d a) first
  only_view K v first (suc j) d a = absurd (some-ne-none d (sym a))

module _ {Value Start Ask Answer : Type 0} (terms : Terms Value Start Ask Answer) where
  pub starts : terms.calls terms.opened ≡ []
      → terms.seats * terms.allowance ≤ terms.room terms.opened
      → Queued terms (opening (0 ∷ 0 ∷ []) (Some terms.opened ∷ []) (gathering terms.opened))
  starts none_yet ample =
      let homes : Homes Value = some (Some terms.opened) ∷ [] in (
        no_steps terms.opened,
        record {
          words = refl;
          served = omega arith;
          right = tt;
          begun = (refl, refl);
          stored = none_yet;
          few = omega arith;
          unmade = λ n h. refl;
          bound = (let e : (terms.seats - 0) * terms.allowance ≡ terms.seats * terms.allowance =
              ap (λ (k : ℕ). k * terms.allowance) (omega arith) in omega arith);
          ample = ample;
          home = inl refl;
          each_opened = only_view (λ _ d. IsOpened terms.opened d) (gathering terms.opened)
              (inr refl);
          each_knows = only_view (λ j d. Knows (no_steps terms.opened) homes j d.role)
              (gathering terms.opened) (refl, refl, λ k o e. absurd (some-ne-none o (sym e)));
          each_sound = only_view (λ _ d. IsSound terms.allowance d.role) (gathering terms.opened) (
            (λ k o e. absurd (some-ne-none o (sym e))),
            λ i k x y e.
                absurd (some-ne-none x (sym e)),
          );
          each_ticket = λ t low high. absurd (omega arith);
          each_number = λ n h. absurd (omega arith);
        },
      )
