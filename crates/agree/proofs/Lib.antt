mod Rows
mod Pages
mod Printed
