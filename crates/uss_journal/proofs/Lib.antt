mod Append
mod Behind
mod Bytes
mod Chain
mod Remount
mod Stands
mod Writing
