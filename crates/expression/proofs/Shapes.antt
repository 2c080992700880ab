-- Expressions in words, an item at a time.
use Rattle.std.proofs.Common.{◌≡◌, ℕ, ◌+◌, ◌-◌, ◌<◌, ◌≤◌, Bool, false, eqb, List, map, length, get_or, drop, ◌∙◌, arith}
use Rattle.std.proofs.lemmas.List.{at_drop_more, at_drop_all, length-map}
use Rattle.std.proofs.lemmas.Bool.{le-leb, lt-leb}
use Rattle.expression.specs.Words.{takes, item_of}
use Rattle.expression.specs.Shape.{lands, is_expression}

pub expression_long : (ws : List ℕ) → 24 < length ws → false ≡ is_expression (map item_of ws)
unfolding is_expression
expression_long ws h = rw (length-map ws item_of, lt-leb (length ws) 24 h)

pub expression_is : (ws : List ℕ) (r : Bool) → length ws ≤ 24 → r ≡ lands 0 (map item_of ws) → r ≡ is_expression (map item_of ws)
unfolding is_expression
expression_is ws r h e = rw (length-map ws item_of, le-leb (length ws) 24 h) e

module _ (ws : List ℕ) (i d : ℕ) where
  pub lands_short : i < length ws → d < takes (item_of (get_or ws i 0)) → lands d (map item_of (drop i ws)) ≡ false
  lands_short h short = at_drop_more (λ xs. lands d (map item_of xs)) ws i 0 h ∙ rw (lt-leb (takes (item_of (get_or ws i 0))) d short)

  pub lands_over : i < length ws → takes (item_of (get_or ws i 0)) ≤ d → 8 ≤ d - takes (item_of (get_or ws i 0)) → lands d (map item_of (drop i ws)) ≡ false
  lands_over h fits over =
      let far : 8 < d - takes (item_of (get_or ws i 0)) + 1 = omega arith in
      at_drop_more (λ xs. lands d (map item_of xs)) ws i 0 h ∙ rw (le-leb (takes (item_of (get_or ws i 0))) d fits, lt-leb (d - takes (item_of (get_or ws i 0)) + 1) 8 far)

  pub lands_next : i < length ws → takes (item_of (get_or ws i 0)) ≤ d → d - takes (item_of (get_or ws i 0)) < 8 → lands d (map item_of (drop i ws)) ≡ lands (d - takes (item_of (get_or ws i 0)) + 1) (map item_of (drop (i + 1) ws))
  lands_next h fits under =
      let near : d - takes (item_of (get_or ws i 0)) + 1 ≤ 8 = omega arith in
      at_drop_more (λ xs. lands d (map item_of xs)) ws i 0 h ∙ rw (le-leb (takes (item_of (get_or ws i 0))) d fits, le-leb (d - takes (item_of (get_or ws i 0)) + 1) 8 near)

  pub lands_end : length ws ≤ i → lands d (map item_of (drop i ws)) ≡ eqb d 1
  lands_end h = at_drop_all (λ xs. lands d (map item_of xs)) ws i h
