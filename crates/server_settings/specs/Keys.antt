-- The keys of a settings file: how each is called, and what it takes.
use Rattle.std.specs.Prelude.{ℕ, if◌then◌else◌, List, codes, Option, Some, None, bytes_eq}
use Rattle.server_settings.specs.declared.key.Key.{Key}
use Rattle.server_settings.specs.declared.key.Key.TheVariants as key

abbrev pub key_name : Key → List ℕ
key_name key.Role = codes "role"
key_name key.Width = codes "width"
key_name key.Boxes = codes "boxes"
key_name key.Owners = codes "owners"
key_name key.Strangers = codes "strangers"
key_name key.Window = codes "window"
key_name key.Clients = codes "clients"
key_name key.Link = codes "link"
key_name key.Status = codes "status"
key_name key.Folder = codes "folder"
key_name key.Places = codes "places"
key_name key.Origin = codes "origin"

abbrev pub key_of : List ℕ → Option Key
key_of name =
    if bytes_eq name (codes "role") then Some key.Role
    else if bytes_eq name (codes "width") then Some key.Width
    else if bytes_eq name (codes "boxes") then Some key.Boxes
    else if bytes_eq name (codes "owners") then Some key.Owners
    else if bytes_eq name (codes "strangers") then Some key.Strangers
    else if bytes_eq name (codes "window") then Some key.Window
    else if bytes_eq name (codes "clients") then Some key.Clients
    else if bytes_eq name (codes "link") then Some key.Link
    else if bytes_eq name (codes "status") then Some key.Status
    else if bytes_eq name (codes "folder") then Some key.Folder
    else if bytes_eq name (codes "places") then Some key.Places
    else if bytes_eq name (codes "origin") then Some key.Origin
    else None

abbrev pub key_takes : Key → List ℕ
key_takes key.Role = codes "\"leader\" or \"helper\""
key_takes key.Width = codes "a multiple of 16 from 16 to 4096"
key_takes key.Boxes = codes "a number from 1 to 4096"
key_takes key.Owners = codes "a number from 0 to 256"
key_takes key.Strangers = codes "a number from 0 to 256"
key_takes key.Window = codes "a number from 1 to 32"
key_takes key.Clients = codes "\"HOST:PORT\""
key_takes key.Link = codes "\"HOST:PORT\""
key_takes key.Status = codes "\"127.0.0.1:PORT\" or \"[::1]:PORT\""
key_takes key.Folder = codes "the path of a folder"
key_takes key.Places = codes "a number from 16 to 4096"
key_takes key.Origin = codes "1 to 255 visible ASCII characters"
