-- Bytes of a reader that are known, slice after slice. Assumes nothing.
use Rattle.std.proofs.Common.{◌≡◌, ℕ, List, [], ◌++◌, refl, sym, ap, ◌∙◌, append_assoc, append-nil, None, Some}
use Rattle.std.specs.declared.option.Option.{Option}
use Rattle.std.specs.Prelude.{IfSome}
use Rattle.std.specs.Io.KnownBytes.{Consumes, IsAtEnd}

pub drawn_none : (k : Option (List ℕ)) → Consumes k k []
drawn_none None = tt
drawn_none (Some xs) = refl

pub drawn_more : (k k' k'' : Option (List ℕ)) (a b : List ℕ) → Consumes k k' a → Consumes k' k'' b → Consumes k k'' (a ++ b)
drawn_more None k' k'' a b h g = tt
drawn_more (Some xs) None k'' a b h g = absurd h
drawn_more (Some xs) (Some ys) None a b h g = absurd g
drawn_more (Some xs) (Some ys) (Some zs) a b h g = h ∙ ap (a ++◌) g ∙ sym (append_assoc a b zs)

pub end_known : (k k' : Option (List ℕ)) → Consumes k k' [] → IsAtEnd k' → IsAtEnd k
end_known None k' h e = tt
end_known (Some xs) None h e = absurd h
end_known (Some xs) (Some ys) h e = h ∙ e

-- all of them came
pub drawn_all : (k k' : Option (List ℕ)) (a : List ℕ) → Consumes k k' a → IsAtEnd k' → IfSome k (λ xs. a ≡ xs)
drawn_all None k' a h e = tt
drawn_all (Some xs) None a h e = absurd h
drawn_all (Some xs) (Some ys) a h e = sym (h ∙ ap (a ++◌) e ∙ append-nil a)

-- some came
pub drawn_some : (k k' : Option (List ℕ)) (a : List ℕ) → Consumes k k' a → IfSome k (λ xs. (rest : List ℕ) × (a ++ rest ≡ xs))
drawn_some None k' a h = tt
drawn_some (Some xs) None a h = absurd h
drawn_some (Some xs) (Some ys) a h = (ys, sym h)

pub known_map : {P Q : List ℕ → Type 0} (k : Option (List ℕ)) → ((xs : List ℕ) → P xs → Q xs) → IfSome k P → IfSome k Q
known_map None f h = tt
known_map (Some xs) f h = f xs h
