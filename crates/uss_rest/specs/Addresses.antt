-- Where the messages to a base URL go: the host and port that are dialled, the value of the field Host (RFC 9110, section 7.2), and what
-- stands before the path of a call.
use Rattle.std.specs.Prelude.{◌≡◌, ℕ, List, [], None, Ok, bytes_eq, codes, unwrap_or, option_map, if◌then◌else◌}
use Rattle.std.specs.Prelude.{string_bytes}
use Rattle.url.specs.declared.slicing.Position.TheVariants.{BeforeHost, AfterPort}
use Rattle.url.specs.Host.{host_text}
use Rattle.url.specs.Parser.{parse_url}
use Rattle.url.specs.Parts.{Parts, nonempty_host, text_between}
use Rattle.uss_rest.specs.declared.addresses.Address.{Address}

-- the host alone, and the port, which is 80 where the URL has none
abbrev pub host_in : Parts → List ℕ
host_in url = unwrap_or (option_map host_text (nonempty_host url)) []

abbrev pub port_in : Parts → ℕ
port_in url = unwrap_or url.port 80

-- the host, and after a colon the port where the URL has one
abbrev pub named_in : Parts → List ℕ
named_in url = text_between url BeforeHost AfterPort

-- the path, and nothing where it is a slash alone
abbrev pub prefix_in : Parts → List ℕ
prefix_in url = if bytes_eq url.path (codes "/") then [] else url.path

pub record IsAddressOf (base : List ℕ) (a : Address) : Type 0 where
  pub url : Parts
  pub read : parse_url None base ≡ Ok url
  pub host : string_bytes a.host ≡ host_in url
  pub port : a.port ≡ port_in url
  pub named : string_bytes a.named ≡ named_in url
  pub prefix : string_bytes a.prefix ≡ prefix_in url
