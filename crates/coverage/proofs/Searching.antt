-- One turn of the search for an unmatched path.
use Rattle.std.proofs.Common.{◌≡◌, ℕ, suc, ◌-◌, ◌<◌, Bool, true, false, List, [], ◌∷◌, ◌++◌, Some, None, Option, sym, refl, ap, ◌∙◌, ap₂, subst, arith}
use Rattle.machine.specs.Machine.{Machine, Row, straight, branch, row_at, chosen}
use Rattle.walk.specs.Settled.{any}
use Rattle.machine.specs.Tables.{table_machine}
use Rattle.machine.specs.declared.accepted.Table.{Table}
use Rattle.walk.specs.Taking.{allowed_target}
use Rattle.proposal.specs.declared.claim.Path.{Path}
use Rattle.proposal.specs.declared.claim.Claim.{Claim}
use Rattle.proposal.specs.Claims.{turns_of}
use Rattle.correspondence.specs.State.{Open, pair_at}
use Rattle.correspondence.specs.Coverage.{led, judged, unmatched}
use Rattle.coverage.specs.Matching.{matches, any_matches}
use Rattle.coverage.specs.Trees.{path_seen, Holds, Finds}

led_more : (m : Machine) (s : ℕ) (path : List Bool) (turn : Bool) → led m s (path ++ (turn ∷ [])) ≡ (chosen (row_at m (led m s path)) turn).target
led_more m s [] turn = refl
led_more m s (t ∷ path) turn = led_more m (chosen (row_at m s) t).target path turn

-- A row that has a turn, or has not.
has_turn : (row : Row) (turn : Bool) (s : ℕ) → Some s ≡ allowed_target row turn → s ≡ (chosen row turn).target
has_turn (straight t) true s e = cc
has_turn (straight t) false s e = cc
has_turn (branch test left right y n) turn s e = cc

-- What is found from a target is found in the table that it is a state of.
pub in_table : (claims : List Claim) (p s : ℕ) (path : Path) (n : ℕ) (r : Option Path) (t u : Table) → t ≡ u → Finds claims t.words.now p s path n r → Finds claims u.words.now p s path n r
in_table claims p s path n r t u e f =
    let P : Table → Type 0 = λ table. Finds claims table.words.now p s path n r in
    subst P e f

module _ (claims : List Claim) (words : List ℕ) (p s : ℕ) (path : Path) (n : ℕ) where
  abbrev row : Row
  row = row_at (table_machine words) s

  pub at_depth : (r : Option Path) → r ≡ Some path → n ≡ 0 → Finds claims words p s path n r
  unfolding unmatched
  at_depth r e z b h l = ap path_seen e ∙ ap (λ k. unmatched b p k (turns_of path)) (sym z)

  -- by what is filed, and the two continuations
  module _ (some : 0 < n) (b : Open) (h : Holds b claims words) (l : led b.machine₁ (pair_at b p).state₁ (turns_of path) ≡ s) where
    on : Bool → Option (List Bool)
    on turn = unmatched b p (n - 1) (turns_of path ++ (turn ∷ []))

    by_filed : unmatched b p n (turns_of path) ≡ judged (any_matches false claims p path) (any_matches true claims p path) row (turns_of path) (on true) (on false)
    unfolding unmatched on
    by_filed =
        let e : n ≡ suc (n - 1) = omega arith in
        let m : b.machine₁ ≡ table_machine words = h.machine_is in
        ap (λ k. unmatched b p k (turns_of path)) e
        ∙ ap (λ cs. judged (any (matches false p (turns_of path)) cs) (any (matches true p (turns_of path)) cs) (row_at b.machine₁ (led b.machine₁ (pair_at b p).state₁ (turns_of path))) (turns_of path) (on true) (on false)) h.claims_are
        ∙ ap₂ (λ x y. judged (any_matches false claims p path) (any_matches true claims p path) (row_at x y) (turns_of path) (on true) (on false)) m l

    -- where a continuation leads to
    leads : (turn : Bool) (s' : ℕ) (q : Path) → Some s' ≡ allowed_target row turn → turns_of q ≡ turns_of path ++ (turn ∷ []) → led b.machine₁ (pair_at b p).state₁ (turns_of q) ≡ s'
    leads turn s' q e t =
        ap (led b.machine₁ (pair_at b p).state₁) t ∙ led_more b.machine₁ (pair_at b p).state₁ (turns_of path) turn
        ∙ ap₂ (λ x y. (chosen (row_at x y) turn).target) h.machine_is l
        ∙ sym (has_turn (row_at (table_machine words) s) turn s' e)

    continued : (turn : Bool) (s' : ℕ) (q : Path) (r : Option Path) → Some s' ≡ allowed_target row turn → turns_of q ≡ turns_of path ++ (turn ∷ []) → Finds claims words p s' q (n - 1) r → path_seen r ≡ on turn
    unfolding on
    continued turn s' q r e t f = f b h (leads turn s' q e t) ∙ ap (unmatched b p (n - 1)) t

  pub when_filed : 0 < n → true ≡ any_matches false claims p path → Finds claims words p s path n None
  when_filed some e b h l = sym (by_filed some b h l ∙ ap (λ x. judged x (any_matches true claims p path) row (turns_of path) (on some b h l true) (on some b h l false)) (sym e))

  module _ (some : 0 < n) (not_filed : false ≡ any_matches false claims p path) where
    pub when_not_begun : false ≡ any_matches true claims p path → Finds claims words p s path n (Some path)
    when_not_begun e b h l = sym (by_filed some b h l ∙ ap₂ (λ x y. judged x y row (turns_of path) (on some b h l true) (on some b h l false)) (sym not_filed) (sym e))

    module _ (begun : true ≡ any_matches true claims p path) (yes_state : ℕ) (yes_path : Path) (there : Some yes_state ≡ allowed_target row true) (goes : turns_of yes_path ≡ turns_of path ++ (true ∷ [])) where
      by_yes : (r : Option Path) → Finds claims words p yes_state yes_path (n - 1) r → (b : Open) (h : Holds b claims words) (l : led b.machine₁ (pair_at b p).state₁ (turns_of path) ≡ s) → unmatched b p n (turns_of path) ≡ judged false true row (turns_of path) (path_seen r) (on some b h l false)
      by_yes r finds b h l =
          by_filed some b h l ∙ ap₂ (λ x y. judged x y row (turns_of path) (on some b h l true) (on some b h l false)) (sym not_filed) (sym begun)
          ∙ ap (λ x. judged false true row (turns_of path) x (on some b h l false)) (sym (continued some b h l true yes_state yes_path r there goes finds))

      pub when_yes : (q : Path) → Finds claims words p yes_state yes_path (n - 1) (Some q) → Finds claims words p s path n (Some q)
      when_yes q finds b h l = sym (by_yes (Some q) finds b h l ∙ found row) where
        found : (x : Row) → judged false true x (turns_of path) (Some (turns_of q)) (on some b h l false) ≡ Some (turns_of q)
        found (straight t) = refl
        found (branch test left right y n) = refl

      module _ (finds : Finds claims words p yes_state yes_path (n - 1) None) where
        pub when_straight : None ≡ allowed_target row false → Finds claims words p s path n None
        when_straight z b h l = sym (by_yes None finds b h l ∙ ended row z) where
          ended : (x : Row) → None ≡ allowed_target x false → judged false true x (turns_of path) None (on some b h l false) ≡ None
          ended (straight t) z = refl
          ended (branch test left right y n) z = cc

        pub when_no : (no_state : ℕ) (no_path : Path) (r : Option Path) → Some no_state ≡ allowed_target row false → turns_of no_path ≡ turns_of path ++ (false ∷ []) → Finds claims words p no_state no_path (n - 1) r → Finds claims words p s path n r
        when_no s' q r there' goes' finds' b h l =
            sym (by_yes None finds b h l ∙ went row there' ∙ sym (continued some b h l false s' q r there' goes' finds'))
          where
            went : (x : Row) → Some s' ≡ allowed_target x false → judged false true x (turns_of path) None (on some b h l false) ≡ on some b h l false
            went (straight t) z = cc
            went (branch test left right y n) z = refl
