-- Where an HTTP request to a URL goes (URL Standard, section 4).
use Rattle.std.specs.Prelude.{ℕ, ◌^◌, nat_lt, List, [], ◌∷◌, ◌++◌, length, codes, bytes_eq, not, ◌&&◌, if◌then◌else◌, Option, None, is_none, unwrap_or, Ok, Err}
use Rattle.std.specs.Option.{option_map, option_map_or}
use Rattle.url.specs.Parts.{Parts, has_credentials, nonempty_host}
use Rattle.url.specs.Host.{host_text}
use Rattle.url.specs.Parser.{Parsed, parse_url}
use Rattle.address_routing.specs.declared.http_target.HttpTarget.{HttpTarget}

-- `http` without a port is port 80
abbrev pub http_port : Option ℕ → ℕ
http_port port = unwrap_or port 80

-- the path, and the query with its question mark where there is one
abbrev pub path_and_query : Parts → List ℕ
path_and_query url = url.path ++ option_map_or (λ query. 63 ∷ query) url.query []

-- a URL of the scheme `http` with a host, and without user name, password and fragment
unfoldable pub target_in : Parts → Option HttpTarget
target_in url =
    if bytes_eq url.scheme (codes "http") && (not (has_credentials url) && is_none url.fragment)
    then option_map (λ host. record { host = host_text host; port = http_port url.port; path = path_and_query url }) (nonempty_host url)
    else None

abbrev pub target_by : Parsed Parts → Option HttpTarget
target_by (Ok url) = target_in url
target_by (Err refused) = None

-- the target of a text, which is shorter than 4 GB
unfoldable pub http_target : List ℕ → Option HttpTarget
http_target text = if nat_lt (length text) (2 ^ 32) then target_by (parse_url None text) else None
