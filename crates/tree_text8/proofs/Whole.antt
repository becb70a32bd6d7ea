-- What a whole tree becomes, or its first unmapped text.
use Rattle.std.proofs.Common.{◌≡◌, ◌∙◌, sym, ap, ℕ, []}
use Rattle.std.specs.Prelude.{None, Some}
use Rattle.carrier_model.specs.Lists.{first_of_list}
use Rattle.carrier_model.specs.Tree.{Message, message, Attachments, no_more, attached, Body, nothing, embedded, stored, depth}
use Rattle.msg_tree.specs.Keeping.{HasStores, HaveStores, BodyHasStores}
use Rattle.text8_model.specs.Become.{UnicodeOf}
use Rattle.text8_model.specs.Unicode.{page_in, converted_in, converted_below, converted_body, converted, unmapped_in, FIRST_PAGE}
use Rattle.text8_model.proofs.KeptLaws.{depth_kept}
use Rattle.text8_model.proofs.TreeLaws.{unicode_means, unicode_found}
use Rattle.tree_text8.specs.Ends.{IsEndOf}
use Rattle.tree_text8.specs.Whole.{IsFirstEnd}
use Rattle.tree_text8.specs.declared.ends.TextEnd.{TextEnd}
use Rattle.tree_text8.specs.declared.ends.TextEnd.TheVariants.{Unmapped, NoMemory}

-- stores stay
mutual
  stores_kept : (code : ℕ) (t : Message) → HasStores t → HasStores (converted_in code t)
  stores_kept code (message ps rs xs) h = stores_below (page_in code ps) xs h

  stores_below : (code : ℕ) (xs : Attachments) → HaveStores xs → HaveStores (converted_below code xs)
  stores_below code no_more h = h
  stores_below code (attached ps x more) h = (stores_in code x h.0, stores_below code more h.1)

  stores_in : (code : ℕ) (x : Body) → BodyHasStores x → BodyHasStores (converted_body code x)
  stores_in code nothing h = h
  stores_in code (embedded t) h = stores_kept code t h
  stores_in code (stored s) h = h

pub converted_stores : (t : Message) → HasStores t → HasStores (converted t)
converted_stores t h = stores_kept FIRST_PAGE t h

pub becomes : (t : Message) → unmapped_in t ≡ [] → UnicodeOf t (converted t)
becomes t e = unicode_found t (ap first_of_list e)

pub converted_depth : (t : Message) → unmapped_in t ≡ [] → depth (converted t) ≡ depth t
converted_depth t e = depth_kept FIRST_PAGE t (converted t) (becomes t e)

pub end_is_first : (t : Message) (e : TextEnd) → IsEndOf (unmapped_in t) e → IsFirstEnd t e
end_is_first t (Unmapped u) h = (h, λ v b. let wrong : None ≡ Some _ = sym (unicode_means t v b).0 ∙ h in cc)
end_is_first t NoMemory h = tt
