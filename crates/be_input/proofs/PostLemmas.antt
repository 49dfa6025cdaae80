-- One or two messages as what is delivered.
use Rattle.std.proofs.Common.{◌≡◌, ℕ, Option, Some, None, List, [], ◌∷◌, ◌++◌, refl, ap, option_map, option_to_list, slice_get}
use Rattle.be_input.specs.declared.Post as sent
use Rattle.be_input.specs.Deliveries.{Post, Delivery, delivery}
use Rattle.be_input.specs.Seen.{seen_post}

pub one_delivered : (first : Option sent.Post) (under : Option (ℕ × ℕ))
    → (record { activate = None; first = option_map seen_post first; second = None; under = under }) ≡ delivery None (option_to_list (option_map seen_post first)) under
one_delivered (Some post) under = refl
one_delivered None under = refl

pub two_delivered : (one : sent.Post) (other : Option sent.Post) (under : Option (ℕ × ℕ))
    → (record { activate = None; first = Some (seen_post one); second = option_map seen_post other; under = under })
    ≡ delivery None (option_to_list (option_map seen_post (Some one)) ++ option_to_list (option_map seen_post other)) under
two_delivered one (Some other) under = refl
two_delivered one None under = refl

pub other_delivered : (other : Option sent.Post) (under : Option (ℕ × ℕ))
    → (record { activate = None; first = option_map seen_post other; second = None; under = under })
    ≡ delivery None (option_to_list (option_map seen_post None) ++ option_to_list (option_map seen_post other)) under
other_delivered (Some other) under = refl
other_delivered None under = refl
