-- What is claimed of the set that a page leaves its sender using (proofs/Sent).
use Rattle.std.specs.Prelude.{ℕ, ◌≡◌}
use Rattle.parameters.specs.Fields.{no_supplemental}
use Rattle.page.specs.declared.Page.{Page}
use Rattle.device.specs.declared.Set.{Set}

-- a set as nexus n's page asks for it: the nexus's own, with the page's scope and fields; "supplemental keys start at none"
pub record AsSent (n : ℕ) (page : Page) (set : Set) : Type 0 where
  pub owner : set.owner ≡ n
  pub scope : set.scope ≡ page.scope
  pub fields : set.fields ≡ page.fields
  pub supplemental : set.supplemental ≡ no_supplemental
