mod Named
mod Setting
mod Rows
mod Invoking
mod Registering
mod Living
mod Fronts
