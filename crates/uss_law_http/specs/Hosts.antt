-- The host of a base URL, as a request names it. RFC 9112: the value of the field Host.
use Rattle.std.specs.Prelude.{◌≡◌, ℕ, ◌<◌, ◌==◌, Bool, not, ◌&&◌, ◌||◌, List, length, None, Ok}
use Rattle.httparse.specs.Grammar.{AllPass}
use Rattle.url.specs.declared.slicing.Position.TheVariants.{BeforeHost, AfterPort}
use Rattle.url.specs.Parser.{parse_url}
use Rattle.url.specs.Parts.{Parts, text_between}
use Rattle.uss_intent.specs.Texts.{IsBase, is_visible}

-- a base, and the URL as which it is read
pub record IsReadAs (base : List ℕ) (url : Parts) : Type 0 where
  pub is_base : IsBase base
  pub read : parse_url None base ≡ Ok url

-- the host, and after a colon the port where it isn't that of the scheme, as `b.example:81`
abbrev pub host_of : Parts → List ℕ
host_of url = text_between url BeforeHost AfterPort

-- a byte of a host and its port: visible, and none that ends them (`#`, `/`, `?`, the backslash) or that stands before them (`@`)
abbrev pub is_host_byte : ℕ → Bool
is_host_byte b = is_visible b && not (b == 35 || b == 47 || b == 63 || b == 64 || b == 92)

-- a text that names a host. RFC 9110, 4.2.1: the host of an http URL isn't empty
pub record IsHost (host : List ℕ) : Type 0 where
  pub some : 0 < length host
  pub bytes : AllPass is_host_byte host

-- a base, and the host that a request to it names
pub record HasHost (base host : List ℕ) : Type 0 where
  pub url : Parts
  pub read : IsReadAs base url
  pub named : host_of url ≡ host
